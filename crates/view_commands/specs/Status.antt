-- Statuses: the exit code and the text of each.
use Rattle.std.specs.Prelude.{ℕ, List, [], ◌++◌, codes, decimal}
use Rattle.std.specs.Fmt.{signed_decimal}
use Rattle.view_base.specs.FaultText as survey
use Rattle.view_commands.specs.declared.status.Status as status
use Rattle.view_commands.specs.declared.status.Status.TheVariants.{Done, Words, Limit, NoColour, OpenFault, ReadFault, TooLong, Survey, WriteFault, SessionLimit, Memory}

-- the exit code of a status
abbrev pub code_of : status.Status → ℕ
code_of Done = 0
code_of (Words _) = 2
code_of (Limit _) = 3
code_of (NoColour _) = 4
code_of (OpenFault _) = 5
code_of (ReadFault _) = 6
code_of TooLong = 7
code_of (Survey _) = 8
code_of (WriteFault _) = 9
code_of (SessionLimit _) = 10
code_of Memory = 11

-- the text of a status, which is empty where all was done
abbrev pub text_of : status.Status → List ℕ
text_of Done = []
text_of (Words at) = codes "word " ++ decimal at ++ codes " is not expected"
text_of (Limit limit) = codes "camera number " ++ decimal limit.place ++ codes " is out of range: " ++ signed_decimal limit.value
text_of (NoColour format) = codes "format " ++ decimal format ++ codes " has no colour"
text_of (OpenFault at) = codes "cannot open word " ++ decimal at
text_of (ReadFault at) = codes "cannot read word " ++ decimal at
text_of TooLong = codes "survey is too long"
text_of (Survey fault) = codes "survey: " ++ survey.text_of fault
text_of (WriteFault at) = codes "cannot write word " ++ decimal at
text_of (SessionLimit at) = codes "session input of word " ++ decimal at ++ codes " is too long"
text_of Memory = codes "out of memory"
