-- What the faults of a walk say.
use Rattle.std.specs.Prelude.{◌≡◌, ⊤, Option, Some}
use Rattle.las_vlr.specs.declared.vlrs.VlrFault.{VlrFault}
use Rattle.las_vlr.specs.declared.vlrs.VlrFault.TheVariants.{Vlr, Memory}
use Rattle.las_vlr.specs.declared.evlrs.EvlrFault.{EvlrFault}
use Rattle.las_vlr.specs.declared.evlrs.EvlrFault.TheVariants as extended
use Rattle.view_base.specs.declared.fault.SurveyFault.{SurveyFault}
use Rattle.view_base.specs.declared.fault.SurveyFault.TheVariants as survey

-- the fault is the file's, or want of memory
abbrev pub IsVlrFault : VlrFault → Option SurveyFault → Type 0
IsVlrFault (Vlr k at) told = told ≡ Some (survey.Vlr k at)
IsVlrFault Memory told = ⊤

-- the fault is the file's, or want of memory
abbrev pub IsEvlrFault : EvlrFault → Option SurveyFault → Type 0
IsEvlrFault (extended.Evlr k at) told = told ≡ Some (survey.Evlr k at)
IsEvlrFault extended.Memory told = ⊤
