-- How a command is run by the shell, and how it ended.
use Rattle.std.specs.Prelude.{◌≡◌, ℕ, pos, false, List, [], ◌∷◌, Some, None, codes}
use Rattle.std.specs.Process.{command_program, command_args, command_dir, command_var, clears_env, exit_code, exit_signal}
use Rattle.std.specs.declared.process.command.Command.{Command}
use Rattle.std.specs.declared.process.status.ExitStatus.{ExitStatus}
use Rattle.ae_outside.specs.declared.dir.Exit.{Exit}
use Rattle.ae_outside.specs.declared.dir.Exit.TheVariants.{Code, Signal}

-- It is `sh -c -- COMMAND` in that folder, with the caller's environment.
pub record IsShell {A : Type 0} (place command : List ℕ) (started : Command A) : Type 0 where
  pub program : command_program started ≡ codes "sh"
  pub words : command_args started ≡ codes "-c" ∷ codes "--" ∷ command ∷ []
  pub folder : command_dir started ≡ Some place
  pub inherits : clears_env started ≡ false
  pub variables : (name : List ℕ) → command_var started name ≡ None

-- a code is said as a code, and a signal as a signal
abbrev pub IsExitOf : ExitStatus → Exit → Type 0
IsExitOf status (Code code) = exit_code status ≡ Some (pos code)
IsExitOf status (Signal signal) = exit_signal status ≡ Some (pos signal)

-- the system says neither a code nor a signal
pub record HasNoEnd (status : ExitStatus) : Type 0 where
  pub no_code : exit_code status ≡ None
  pub no_signal : exit_signal status ≡ None
