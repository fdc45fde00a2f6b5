-- The texts of the faults of a file.
use Rattle.std.specs.Prelude.{ℕ, List, ◌++◌, codes, decimal}
use Rattle.view_base.specs.declared.fault.HeaderFault.{HeaderFault}
use Rattle.view_base.specs.declared.fault.HeaderFault.TheVariants.{TooShort, Signature, Version, HeaderSize, Compressed, Format, RecordLength, Offset}
use Rattle.view_base.specs.declared.fault.SurveyFault.{SurveyFault}
use Rattle.view_base.specs.declared.fault.SurveyFault.TheVariants.{Header, Vlr, Points, Evlr}

-- the text of a header's fault
abbrev pub header_text : HeaderFault → List ℕ
header_text (TooShort have) = codes "only " ++ decimal have ++ codes " bytes"
header_text Signature = codes "no LASF signature"
header_text (Version major minor) = codes "version " ++ decimal major ++ codes "." ++ decimal minor
header_text (HeaderSize size) = codes "header size " ++ decimal size
header_text (Compressed byte) = codes "compressed points, format byte " ++ decimal byte
header_text (Format byte) = codes "point format " ++ decimal byte
header_text (RecordLength have least) = codes "record length " ++ decimal have ++ codes ", least " ++ decimal least
header_text (Offset offset) = codes "point offset " ++ decimal offset

-- the text of a survey's fault
abbrev pub text_of : SurveyFault → List ℕ
text_of (Header fault) = header_text fault
text_of (Vlr k at) = codes "VLR " ++ decimal k ++ codes " at " ++ decimal at
text_of (Points need have) = codes "points need " ++ decimal need ++ codes " bytes, file has " ++ decimal have
text_of (Evlr k at) = codes "EVLR " ++ decimal k ++ codes " at " ++ decimal at
