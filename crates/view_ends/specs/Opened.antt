-- The regular files that a desk of the system opened.
use Rattle.std.specs.Prelude.{◌+◌, ◌≤◌, Contains, IfSome, IsSome, vec_capacity, vec_len}
use Rattle.std.specs.Fs.{IsFile}
use Rattle.view_ends.specs.declared.opened.Identity.{Identity}
use Rattle.view_ends.specs.declared.opened.Mark.{Mark}
use Rattle.view_ends.specs.declared.opened.Opened.{Opened}

-- this file was opened
abbrev pub WasOpened : Opened → Identity → Type 0
WasOpened opened file = Contains opened.files.items file

-- this file is being written
abbrev pub IsWritten : Opened → Identity → Type 0
IsWritten opened file = Contains opened.written.items file

-- one more file can be noted without memory
pub record HasRoom (opened : Opened) : Type 0 where
  pub files : vec_len opened.files + 1 ≤ vec_capacity opened.files
  pub written : vec_len opened.written + 1 ≤ vec_capacity opened.written

-- what was opened to read is a regular file that is noted and was not being written, or no regular file
pub record ReadsApart (old new : Opened) (mark : Mark) : Type 0 where
  pub marked : IsFile mark.kind → IsSome mark.file
  pub unwritten : IfSome mark.file (λ file. ¬ IsWritten old file)
  pub noted : IfSome mark.file (WasOpened new)

-- what was opened to write is a regular file that is noted and was not opened before, or no regular file
pub record WritesApart (old new : Opened) (mark : Mark) : Type 0 where
  pub marked : IsFile mark.kind → IsSome mark.file
  pub unopened : IfSome mark.file (λ file. ¬ WasOpened old file)
  pub noted : IfSome mark.file (WasOpened new)
  pub written : IfSome mark.file (IsWritten new)

-- each file that was opened stays noted
abbrev pub StaysNoted : Opened → Opened → Type 0
StaysNoted old new = (file : Identity) → WasOpened old file → WasOpened new file
