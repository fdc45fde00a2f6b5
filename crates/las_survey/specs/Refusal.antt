-- What a load answers for a fault of the header or of a variable length record.
use Rattle.view_base.specs.declared.fault.HeaderFault.{HeaderFault}
use Rattle.las_vlr.specs.declared.vlrs.VlrFault.{VlrFault}
use Rattle.las_vlr.specs.declared.vlrs.VlrFault.TheVariants as vlr
use Rattle.las_vlr.specs.declared.evlrs.EvlrFault.{EvlrFault}
use Rattle.las_vlr.specs.declared.evlrs.EvlrFault.TheVariants as evlr
use Rattle.view_base.specs.declared.fault.SurveyFault.TheVariants.{Header, Vlr, Evlr}
use Rattle.las_survey.specs.declared.loading.LoadFault.{LoadFault}
use Rattle.las_survey.specs.declared.loading.LoadFault.TheVariants.{Survey, Memory}

-- the answer for a fault of the header
abbrev pub of_header : HeaderFault → LoadFault
of_header fault = Survey (Header fault)

-- the answer for a fault of the variable length records
abbrev pub of_vlr : VlrFault → LoadFault
of_vlr (vlr.Vlr k at) = Survey (Vlr k at)
of_vlr vlr.Memory = Memory

-- the answer for a fault of the extended variable length records
abbrev pub of_evlr : EvlrFault → LoadFault
of_evlr (evlr.Evlr k at) = Survey (Evlr k at)
of_evlr evlr.Memory = Memory
