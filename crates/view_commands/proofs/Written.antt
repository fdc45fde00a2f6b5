-- Commands that read a survey and write a text, put together of their steps.
use Rattle.std.proofs.Common.{◌≡◌, ℕ, ◌<◌, ◌≤◌, List, Option, Some, None, length, refl, sym, ◌∙◌, ap, subst, inl, inr}
use Rattle.std.specs.Prelude.{Bool, IsTrue, IfSome, ◌⊎◌, unwrap_or}
use Rattle.std.proofs.lemmas.Bool.{le-leb, lt-leb}
use Rattle.view_base.specs.declared.fault.SurveyFault.{SurveyFault}
use Rattle.las_survey.specs.declared.loading.TheConstants.{LIMIT}
use Rattle.sessions.specs.declared.end.Reason as reason
use Rattle.sessions.specs.declared.end.Reason.TheVariants as why
use Rattle.view_ends.specs.Desk.{Said}
use Rattle.view_ends.specs.Ends.{Rose, RoseBy, AllStay, OthersStay}
use Rattle.view_meaning.specs.Layout as layout
use Rattle.view_meaning.specs.Layout.{IsLaid}
use Rattle.view_commands.specs.Texts.{IsReadWhole, OnlyTook, NoSurvey, HoldsPart, KeepsText, OnlyWrote, Writes, status_by, SettlesFile, MakesText}
use Rattle.view_commands.specs.declared.places.TheConstants.{OUT}
use Rattle.view_commands.specs.declared.status.Status as status
use Rattle.view_commands.specs.declared.status.Status.TheVariants.{Done, Words, Limit, NoColour, OpenFault, ReadFault, TooLong, Survey, WriteFault, SessionLimit, Memory}

-- a file that is laid out has no fault
pub fault-laid : (b : List ℕ) (fault : SurveyFault) → IsLaid b → layout.fault b ≡ Some fault → ⊥
unfolding IsLaid
fault-laid b fault laid is = absurd (cc (laid, is))

-- what a name's file was read as, where the desk tells the file
same_bytes : (told : Option (List ℕ)) (b read : List ℕ) → told ≡ Some b → IfSome told (λ file. file ≡ read) → b ≡ read
same_bytes told b read is all = subst (λ (told : Option (List ℕ)). IfSome told (λ file. file ≡ read)) is all

told_long : (told : Option (List ℕ)) (b : List ℕ) → told ≡ Some b → IfSome told (λ file. LIMIT < length file) → LIMIT < length b
told_long told b is long = subst (λ (told : Option (List ℕ)). IfSome told (λ file. LIMIT < length file)) is long

faultless : (b : List ℕ) → IsLaid b → layout.fault b ≡ None
unfolding IsLaid
faultless b laid = laid

-- no survey: how that settles
pub no_survey-settles : (tells : Bool) (old new : Said) (name : List ℕ) (refusal : List ℕ → Option status.Status) (calm : Type 0) (status : status.Status) → NoSurvey tells old new name status → SettlesFile tells old new name refusal calm status
no_survey-settles tells old new name refusal calm (OpenFault at) none = λ tell b is opened unfailed quiet. absurd (opened none.1)
no_survey-settles tells old new name refusal calm (ReadFault at) none = λ tell b is opened unfailed quiet. absurd (unfailed none.1)
no_survey-settles tells old new name refusal calm TooLong none = λ tell b is opened unfailed quiet.
    inl (rw (lt-leb (length b) LIMIT (told_long (old.file name) b is none.1)) refl)
no_survey-settles tells old new name refusal calm (Survey told) none = λ tell b is opened unfailed quiet.
    let same : b ≡ none.0.0 = same_bytes (old.file name) b none.0.0 is none.0.1.all in
    let short : length b ≤ LIMIT = subst (λ (l : List ℕ). length l ≤ LIMIT) (sym same) none.0.1.few in
    let at_fault : layout.fault b ≡ Some told = ap layout.fault same ∙ none.0.2 in
    inl (rw (le-leb (length b) LIMIT short, at_fault) refl)
no_survey-settles tells old new name refusal calm Memory none = λ tell b is opened unfailed quiet. inr refl
no_survey-settles tells old new name refusal calm Done none = absurd none
no_survey-settles tells old new name refusal calm (Words at) none = absurd none
no_survey-settles tells old new name refusal calm (Limit limit) none = absurd none
no_survey-settles tells old new name refusal calm (NoColour format) none = absurd none
no_survey-settles tells old new name refusal calm (WriteFault at) none = absurd none
no_survey-settles tells old new name refusal calm (SessionLimit at) none = absurd none

-- a survey that was read and is laid out settles by what comes after
pub read-settles : (tells : Bool) (old new : Said) (name b : List ℕ) (refusal : List ℕ → Option status.Status) (calm : Type 0) (ended : status.Status) → IsLaid b → IsReadWhole tells old new name b
    → ((status : status.Status) → refusal b ≡ Some status → (ended ≡ status) ⊎ (ended ≡ Memory)) → (IsTrue tells → refusal b ≡ None → calm → (ended ≡ Done) ⊎ (ended ≡ Memory)) → SettlesFile tells old new name refusal calm ended
read-settles tells old new name b refusal calm ended laid read refused ends = λ tell c is opened unfailed quiet.
    let same : c ≡ b = same_bytes (old.file name) c b is read.all in
    let decided : status_by b (refusal b) ≡ unwrap_or (refusal b) Done = rw (le-leb (length b) LIMIT read.few, faultless b laid) refl in
    let whole : status_by c (refusal c) ≡ unwrap_or (refusal b) Done = ap (λ (l : List ℕ). status_by l (refusal l)) same ∙ decided in
    subst (λ (s : status.Status). (ended ≡ s) ⊎ (ended ≡ Memory)) (sym whole) (settled (refusal b) refused (λ none. ends tell none (quiet (whole ∙ ap (λ (o : Option status.Status). unwrap_or o Done) none))))
  where
    settled : (o : Option status.Status) → ((status : status.Status) → o ≡ Some status → (ended ≡ status) ⊎ (ended ≡ Memory)) → (o ≡ None → (ended ≡ Done) ⊎ (ended ≡ Memory)) → (ended ≡ unwrap_or o Done) ⊎ (ended ≡ Memory)
    settled None refused ends = ends refl
    settled (Some status) refused ends = refused status refl

-- a command that refuses no survey ends with no refusal
pub unrefused : (ended status : status.Status) → None ≡ Some status → (ended ≡ status) ⊎ (ended ≡ Memory)
unrefused ended status is = absurd (cc is)

-- no survey: no file changed
pub no_survey-files : (tells : Bool) (old new : Said) (name : List ℕ) (status : status.Status) → NoSurvey tells old new name status → AllStay old.file new.file
no_survey-files tells old new name (OpenFault at) none = none.2.files
no_survey-files tells old new name (ReadFault at) none = none.2.rest.files
no_survey-files tells old new name TooLong none = none.2.rest.files
no_survey-files tells old new name (Survey told) none = none.1.rest.files
no_survey-files tells old new name Memory none = none.rest.files
no_survey-files tells old new name Done none = absurd none
no_survey-files tells old new name (Words at) none = absurd none
no_survey-files tells old new name (Limit limit) none = absurd none
no_survey-files tells old new name (NoColour format) none = absurd none
no_survey-files tells old new name (WriteFault at) none = absurd none
no_survey-files tells old new name (SessionLimit at) none = absurd none

-- no survey: nothing was taken of another name
pub no_survey-taken : (tells : Bool) (old new : Said) (name : List ℕ) (status : status.Status) → NoSurvey tells old new name status → OthersStay old.taken new.taken name
no_survey-taken tells old new name (OpenFault at) none = λ other apart. none.2.taken other
no_survey-taken tells old new name (ReadFault at) none = none.2.others
no_survey-taken tells old new name TooLong none = none.2.others
no_survey-taken tells old new name (Survey told) none = none.1.others
no_survey-taken tells old new name Memory none = none.others
no_survey-taken tells old new name Done none = absurd none
no_survey-taken tells old new name (Words at) none = absurd none
no_survey-taken tells old new name (Limit limit) none = absurd none
no_survey-taken tells old new name (NoColour format) none = absurd none
no_survey-taken tells old new name (WriteFault at) none = absurd none
no_survey-taken tells old new name (SessionLimit at) none = absurd none

part_earlier : (tells : Bool) (old mid new : Said) (name bytes : List ℕ) → mid.unkept name ≡ old.unkept name → HoldsPart tells mid new name bytes → HoldsPart tells old new name bytes
part_earlier tells old mid new name bytes unkept part = λ tell calm.
    part tell (λ rose. calm (subst (λ (n : ℕ). Rose n (new.unkept name)) unkept rose))

-- what was kept, seen from an earlier state
pub keeps-earlier : (tells : Bool) (old mid new : Said) (name bytes : List ℕ) (reason : reason.Reason) → mid.writes name ≡ old.writes name → mid.unkept name ≡ old.unkept name → KeepsText tells mid new name bytes reason → KeepsText tells old new name bytes reason
keeps-earlier tells old mid new name bytes why.Finished writes unkept so = (so.0, so.1 ∙ writes)
keeps-earlier tells old mid new name bytes why.WriteFault writes unkept so = (
  part_earlier tells old mid new name bytes unkept so.0,
  subst (λ (n : ℕ). Rose n (new.writes name)) writes so.1,
)
keeps-earlier tells old mid new name bytes why.Memory writes unkept so = (part_earlier tells old mid new name bytes unkept so.0, so.1 ∙ writes)
keeps-earlier tells old mid new name bytes why.ReadFault writes unkept so = absurd so
keeps-earlier tells old mid new name bytes why.SessionLimit writes unkept so = absurd so

-- a text that was written after a survey was read, seen from before that
writes-earlier : (tells : Bool) (old mid new : Said) (place : ℕ) (out bytes : List ℕ) (status : status.Status) → AllStay old.file mid.file → mid.writes out ≡ old.writes out → mid.unkept out ≡ old.unkept out
    → Writes tells mid new place out bytes status → Writes tells old new place out bytes status
writes-earlier tells old mid new place out bytes Done files writes unkept so = (so.0, so.1 ∙ writes)
writes-earlier tells old mid new place out bytes (OpenFault at) files writes unkept so = (
  so.0,
  λ other. so.1 other ∙ files other,
  subst (λ (n : ℕ). Rose n (new.writes out)) writes so.2,
)
writes-earlier tells old mid new place out bytes (WriteFault at) files writes unkept so = (so.0, keeps-earlier tells old mid new out bytes why.WriteFault writes unkept so.1)
writes-earlier tells old mid new place out bytes Memory files writes unkept (inl stay, same) = (inl (λ other. stay other ∙ files other), same ∙ writes)
writes-earlier tells old mid new place out bytes Memory files writes unkept (inr part, same) = (inr (part_earlier tells old mid new out bytes unkept part), same ∙ writes)
writes-earlier tells old mid new place out bytes (Words at) files writes unkept so = absurd so
writes-earlier tells old mid new place out bytes (Limit limit) files writes unkept so = absurd so
writes-earlier tells old mid new place out bytes (NoColour format) files writes unkept so = absurd so
writes-earlier tells old mid new place out bytes (ReadFault at) files writes unkept so = absurd so
writes-earlier tells old mid new place out bytes TooLong files writes unkept so = absurd so
writes-earlier tells old mid new place out bytes (Survey told) files writes unkept so = absurd so
writes-earlier tells old mid new place out bytes (SessionLimit at) files writes unkept so = absurd so

-- a text whose writing met no fault is done, but for want of memory
pub writes-calm : (tells : Bool) (old new : Said) (place : ℕ) (out bytes : List ℕ) (status : status.Status) → Writes tells old new place out bytes status → (Rose (old.writes out) (new.writes out) → ⊥) → (status ≡ Done) ⊎ (status ≡ Memory)
writes-calm tells old new place out bytes Done so calm = inl refl
writes-calm tells old new place out bytes (OpenFault at) so calm = absurd (calm so.2)
writes-calm tells old new place out bytes (WriteFault at) so calm = absurd (calm so.1.1)
writes-calm tells old new place out bytes Memory so calm = inr refl
writes-calm tells old new place out bytes (Words at) so calm = absurd so
writes-calm tells old new place out bytes (Limit limit) so calm = absurd so
writes-calm tells old new place out bytes (NoColour format) so calm = absurd so
writes-calm tells old new place out bytes (ReadFault at) so calm = absurd so
writes-calm tells old new place out bytes TooLong so calm = absurd so
writes-calm tells old new place out bytes (Survey told) so calm = absurd so
writes-calm tells old new place out bytes (SessionLimit at) so calm = absurd so

-- no survey came, and nothing was written
pub text-none : (tells : Bool) (old new : Said) (survey out : List ℕ) (refusal : List ℕ → Option status.Status) (text : List ℕ → List ℕ) (status : status.Status) → NoSurvey tells old new survey status → MakesText tells old new survey out refusal text status
text-none tells old new survey out refusal text status none = record {
  outcome = inl none;
  others = λ other apart. no_survey-files tells old new survey status none other;
  settled = no_survey-settles tells old new survey refusal (Rose (old.writes out) (new.writes out) → ⊥) status none;
}

refused_alone : (o : Option status.Status) (refusal : status.Status) → o ≡ Some refusal → o ≡ None → ⊥
refused_alone o refusal is none = absurd (cc (is, none))

-- a survey was read and refused, and nothing was written
pub text-refused : (tells : Bool) (old new : Said) (survey out : List ℕ) (refusal : List ℕ → Option status.Status) (text : List ℕ → List ℕ) (b : List ℕ) (ended : status.Status) → refusal b ≡ Some ended → IsLaid b → IsReadWhole tells old new survey b → OnlyTook old new survey
    → MakesText tells old new survey out refusal text ended
text-refused tells old new survey out refusal text b ended is laid read took =
    record {
      outcome = inr (b, laid, read, inr (is, took));
      others = λ other apart. took.rest.files other;
      settled = read-settles tells old new survey b refusal (Rose (old.writes out) (new.writes out) → ⊥) ended laid read (λ other also. inl (the_same (refusal b) ended other is also)) (λ tell free calm. absurd (refused_alone (refusal b) ended is free));
    }
  where
    the_same : (o : Option status.Status) (one other : status.Status) → o ≡ Some one → o ≡ Some other → one ≡ other
    the_same o one other is also = cc (is, also)

-- a survey was read and not refused, and then its text written
pub text-written : (tells : Bool) (old mid new : Said) (survey out : List ℕ) (refusal : List ℕ → Option status.Status) (text : List ℕ → List ℕ) (b bytes : List ℕ) (ended : status.Status) → bytes ≡ text b → refusal b ≡ None → IsLaid b → IsReadWhole tells old mid survey b → OnlyTook old mid survey
    → Writes tells mid new OUT out bytes ended → OnlyWrote mid new out → MakesText tells old new survey out refusal text ended
text-written tells old mid new survey out refusal text b bytes ended is free laid read took written only =
    let reads : IsReadWhole tells old new survey b = record {
      few = read.few;
      all = read.all;
      there = read.there;
      counted = subst (λ (n : ℕ). RoseBy (length b) (old.taken survey) n) (sym (only.rest.taken survey)) read.counted;
      opened = only.rest.unopened survey ∙ read.opened;
      unfailed = only.rest.reads survey ∙ read.unfailed;
    } in
    let writes : Writes tells old new OUT out (text b) ended =
    subst (λ (l : List ℕ). Writes tells old new OUT out l ended) is (writes-earlier tells old mid new OUT out bytes ended took.rest.files (took.rest.writes out) (took.rest.unkept out) written) in
    record {
      outcome = inr (b, laid, reads, inl (free, writes));
      others = λ other apart. only.files other apart ∙ took.rest.files other;
      settled = read-settles tells old new survey b refusal (Rose (old.writes out) (new.writes out) → ⊥) ended laid reads (λ other also. absurd (refused_alone (refusal b) other also free)) (λ tell none calm. writes-calm tells old new OUT out (text b) ended writes calm);
    }
