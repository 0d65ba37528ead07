-- The files of a disk in memory. The first of a name counts.
use Rattle.std.specs.Prelude.{if◌then◌else◌, List, [], ◌∷◌}
use Rattle.std.specs.Str.{bytes_eq}
use Rattle.ae_memory_disk.specs.declared.disk_files.File.{File}
use Rattle.ae_outside.specs.Image.{Image}

-- the disk that these files are
abbrev pub bytes_of : List File → Image
bytes_of [] name = []
bytes_of (file ∷ files) name = if bytes_eq file.name name then file.bytes else bytes_of files name
