-- A reading's error as one of the vault.
use Rattle.ae_outside.specs.declared.failed.ReadError.{ReadError}
use Rattle.ae_outside.specs.declared.failed.ReadError.TheVariants as reading
use Rattle.ae_vault.specs.declared.error.VaultError.{VaultError}
use Rattle.ae_vault.specs.declared.error.VaultError.TheVariants as vault

abbrev pub read_error : ReadError → VaultError
read_error reading.Failed = vault.DiskFault
read_error reading.Memory = vault.Memory
