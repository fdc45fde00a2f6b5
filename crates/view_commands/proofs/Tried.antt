-- The survey of a trial, and what a trial writes.
use Rattle.std.proofs.Common.{◌≡◌, ℕ, ◌<◌, ◌≤◌, ◌^◌, List, ◌++◌, length, Option, Some, refl, sym, ap, subst, ◌∙◌, arith}
use Rattle.std.specs.Prelude.{Bool, IfSome}
use Rattle.std.proofs.lemmas.List.{append-nil}
use Rattle.las_survey.specs.Loading.{TookAll}
use Rattle.las_survey.specs.declared.loading.TheConstants.{LIMIT}
use Rattle.survey_make.specs.Made.{made}
use Rattle.survey_make.proofs.Laid.{length-made, laid-made}
use Rattle.view_base.specs.declared.fault.SurveyFault.{SurveyFault}
use Rattle.view_ends.specs.Desk.{Said}
use Rattle.view_ends.specs.Ends.{Leaves, IsSpent}
use Rattle.view_meaning.specs.Layout as layout
use Rattle.view_meaning.specs.Layout.{IsLaid}
use Rattle.view_commands.specs.Trial.{WritesSummary, summary}
use Rattle.view_commands.specs.Texts.{OnlyWrote, Writes}
use Rattle.view_commands.specs.declared.places.TheConstants.{TRIAL_OUT}
use Rattle.view_commands.specs.declared.script.TheConstants.{FORMAT}
use Rattle.view_commands.specs.declared.status.Status as status
use Rattle.view_commands.proofs.Counts.{same_said}
use Rattle.view_commands.proofs.Written.{fault-laid, writes-calm}

-- all that a source had was taken
pub taken-all : (old new : Option (List ℕ)) (before after : ℕ) (all bytes : List ℕ) → old ≡ Some all → TookAll old before bytes new after → bytes ≡ all
taken-all old new before after all bytes is took =
    let came : Leaves (Some all) bytes new = subst (λ (o : Option (List ℕ)). Leaves o bytes new) is took.took.came in
    let ended : IsSpent (Some came.0) = subst IsSpent came.1 took.ended in
    sym (came.2 ∙ ap (λ (l : List ℕ). bytes ++ l) ended ∙ append-nil bytes)

-- a survey of so few records isn't too long
pub made-short : (start records : ℕ) (left : Option (List ℕ)) → records ≤ 2 ^ 23 → left ≡ Some (made start records FORMAT) → IfSome left (λ all. LIMIT < length all) → ⊥
made-short start records left few is long =
    let longer : LIMIT < length (made start records FORMAT) = subst (λ (o : Option (List ℕ)). IfSome o (λ all. LIMIT < length all)) is long in
    absurd (omega (arith, longer, few, length-made start records FORMAT (omega arith)))

-- and has no fault
pub made-faultless : (start records : ℕ) (old new : Option (List ℕ)) (before after : ℕ) (bytes : List ℕ) (fault : SurveyFault) → records ≤ 2 ^ 23 → old ≡ Some (made start records FORMAT)
    → TookAll old before bytes new after → layout.fault bytes ≡ Some fault → ⊥
made-faultless start records old new before after bytes fault few is took found =
    fault-laid (made start records FORMAT) fault (laid-made start records FORMAT (omega arith) (omega (arith, few))) (ap layout.fault (sym (taken-all old new before after _ bytes is took)) ∙ found)

-- nothing was written
pub only_wrote-none : (said : Said) (name : List ℕ) → OnlyWrote said said name
only_wrote-none said name = record {
  files = λ other apart. refl;
  writes = λ other apart. refl;
  unkept = λ other apart. refl;
  rest = same_said said;
}

-- a summary whose writing ended so
pub writes-summary : (tells : Bool) (old new : Said) (start records : ℕ) (out text : List ℕ) (ended : status.Status) → text ≡ summary start records → Writes tells old new TRIAL_OUT out text ended → OnlyWrote old new out
    → WritesSummary tells old new start records out ended
writes-summary tells old new start records out text ended is written only =
    let writes : Writes tells old new TRIAL_OUT out (summary start records) ended = subst (λ (l : List ℕ). Writes tells old new TRIAL_OUT out l ended) is written in
    record { written = writes; only = only; settled = writes-calm tells old new TRIAL_OUT out (summary start records) ended writes }
