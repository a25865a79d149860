-- A disk over a folder of the file system, as contracts see it. All of it is this project's own rule.
-- * folder of a disk: the folder whose files it has, relative to the current folder
use Rattle.std.specs.Prelude.{ℕ, List}
use Rattle.reel_disk.specs.declared.folder.FolderDisk.{FolderDisk}

abbrev pub folder_in : {R F G : Type 0} → FolderDisk R F G → List ℕ
folder_in disk = disk.files.folder
