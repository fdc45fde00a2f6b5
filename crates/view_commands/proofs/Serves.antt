-- A `serve`, put together of its steps.
use Rattle.std.proofs.Common.{◌≡◌, ◌≢◌, ℕ, ◌+◌, ◌*◌, ◌≤◌, Bool, List, length, None, refl, sym, ◌∙◌, subst, arith, inl, inr}
use Rattle.view_base.specs.Fitting.{word_at}
use Rattle.view_ends.specs.Desk.{Said}
use Rattle.view_ends.specs.Ends.{Rose, RoseBy}
use Rattle.view_meaning.specs.Layout.{IsLaid}
use Rattle.view_words.specs.CommandLine.{IsLine}
use Rattle.view_words.specs.declared.row.Row.TheVariants.{Serve}
use Rattle.view_words.proofs.RowNames.{in_not_survey}
use Rattle.view_commands.specs.declared.places.TheConstants.{SURVEY, JOURNAL}
use Rattle.view_commands.specs.declared.status.Status as status
use Rattle.view_commands.specs.declared.status.Status.TheVariants.{Done, Words, Limit, NoColour, OpenFault, ReadFault, TooLong, Survey, WriteFault, SessionLimit, Memory}
use Rattle.view_commands.specs.declared.told.Ended.{Ended}
use Rattle.view_commands.specs.Run.{input, HasPair, IsCalm, IsNothing, Empties, NotOpened, ServesLine}
use Rattle.view_commands.specs.Steps.{OnlyInputs, RefusesOpening, RunsAll, ServesIn}
use Rattle.view_commands.specs.Texts.{IsReadWhole, NoSurvey, OnlyTook}
use Rattle.view_commands.proofs.Counts.{at_most}
use Rattle.view_commands.proofs.SessionsRun.{runs-all, runs-only}
use Rattle.view_commands.proofs.Settled.{not_opened-settles, sessions-settle}
use Rattle.view_commands.proofs.Written.{no_survey-settles, no_survey-taken, read-settles, unrefused}

abbrev Calm : Said → Said → List (List ℕ) → Type 0
Calm old new ws = ((k : ℕ) → HasPair ws k → IsCalm old new ws k) × (Rose (old.writes (word_at ws JOURNAL)) (new.writes (word_at ws JOURNAL)) → ⊥)

apart : (ws : List (List ℕ)) (n k : ℕ) → IsLine Serve ws → length ws ≡ 4 + 2 * n → HasPair ws k → input ws k ≢ word_at ws SURVEY
apart ws n k line pairs pair = in_not_survey ws n k line pairs (omega (arith, pairs, pair))

-- no survey came
pub serves-none : (tells : Bool) (old new : Said) (ws : List (List ℕ)) (n : ℕ) (is : status.Status) (ended : Ended) → IsLine Serve ws → length ws ≡ 4 + 2 * n → ended.status ≡ is → IsNothing ended.told → NoSurvey tells old new (word_at ws SURVEY) is → ServesLine tells old new ws ended
serves-none tells old new ws n status_is ended line pairs is nothing none =
    let came : NoSurvey tells old new (word_at ws SURVEY) ended.status = subst (λ (s : status.Status). NoSurvey tells old new (word_at ws SURVEY) s) (sym is) none in
    record {
      outcome = inl record {
        nothing = nothing;
        untaken = λ k pair. at_most _ _ (no_survey-taken tells old new (word_at ws SURVEY) ended.status came (input ws k) (apart ws n k line pairs pair));
        cause = inl came;
      };
      settled = no_survey-settles tells old new (word_at ws SURVEY) (λ (b : List ℕ). None) (Calm old new ws) ended.status came;
    }

-- what was read before further inputs were opened and shut
read-before : (tells : Bool) (old mid new : Said) (ws : List (List ℕ)) (b : List ℕ) (n : ℕ) → IsLine Serve ws → length ws ≡ 4 + 2 * n → IsReadWhole tells old mid (word_at ws SURVEY) b → OnlyInputs mid new ws → IsReadWhole tells old new (word_at ws SURVEY) b
read-before tells old mid new ws b n line pairs read only =
    let survey = word_at ws SURVEY in
    let away = λ (k : ℕ) (pair : HasPair ws k) (same : survey ≡ input ws k). apart ws n k line pairs pair (sym same) in
    record {
      few = read.few;
      all = read.all;
      there = read.there;
      counted = subst (λ (m : ℕ). RoseBy (length b) (old.taken survey) m) (sym (only.taken survey away)) read.counted;
      opened = only.unopened survey away ∙ read.opened;
      unfailed = only.reads survey away ∙ read.unfailed;
    }

-- a refusal, seen from before the survey was read
refused-before : (old mid new : Said) (survey : List ℕ) (ws : List (List ℕ)) (n : ℕ) (status : status.Status) → OnlyTook old mid survey → NotOpened mid new ws n status → NotOpened old new ws n status
refused-before old mid new survey ws n (OpenFault at) took (inl none) = inl (
  none.0,
  none.1,
  subst (λ (m : ℕ). Rose m (new.unopened (word_at ws at))) (took.rest.unopened (word_at ws at)) none.2,
  record {
    files = λ other. refl;
    unopened = λ other. refl;
    reads = λ other. none.3.reads other ∙ took.rest.reads other;
    writes = λ other. none.3.writes other ∙ took.rest.writes other;
    taken = λ other. refl;
    unkept = λ other. none.3.unkept other ∙ took.rest.unkept other;
    known = λ other is. none.3.known other (took.rest.known other is);
  },
)
refused-before old mid new survey ws n (OpenFault at) took (inr none) = inr (
  none.0,
  subst (λ (m : ℕ). Rose m (new.writes (word_at ws at))) (took.rest.writes (word_at ws at)) none.1,
  record {
    files = λ other. refl;
    unopened = λ other. none.2.unopened other ∙ took.rest.unopened other;
    reads = λ other. none.2.reads other ∙ took.rest.reads other;
    writes = λ other. refl;
    taken = λ other. refl;
    unkept = λ other. none.2.unkept other ∙ took.rest.unkept other;
    known = λ other is. none.2.known other (took.rest.known other is);
  },
)
refused-before old mid new survey ws n Memory took none = (
  none.0,
  record {
    files = λ other. refl;
    unopened = λ other. none.1.unopened other ∙ took.rest.unopened other;
    reads = λ other. none.1.reads other ∙ took.rest.reads other;
    writes = λ other. none.1.writes other ∙ took.rest.writes other;
    taken = λ other. refl;
    unkept = λ other. none.1.unkept other ∙ took.rest.unkept other;
    known = λ other is. none.1.known other (took.rest.known other is);
  },
)
refused-before old mid new survey ws n Done took none = absurd none
refused-before old mid new survey ws n (Words at) took none = absurd none
refused-before old mid new survey ws n (Limit limit) took none = absurd none
refused-before old mid new survey ws n (NoColour format) took none = absurd none
refused-before old mid new survey ws n (ReadFault at) took none = absurd none
refused-before old mid new survey ws n TooLong took none = absurd none
refused-before old mid new survey ws n (Survey told) took none = absurd none
refused-before old mid new survey ws n (WriteFault at) took none = absurd none
refused-before old mid new survey ws n (SessionLimit at) took none = absurd none

-- a survey was read, and then not all was opened
serves-refused : (tells : Bool) (old mid new : Said) (ws : List (List ℕ)) (b : List ℕ) (n : ℕ) (ended : Ended) → IsLine Serve ws → length ws ≡ 4 + 2 * n → IsLaid b → IsReadWhole tells old mid (word_at ws SURVEY) b → OnlyTook old mid (word_at ws SURVEY)
    → IsNothing ended.told → RefusesOpening tells mid new ws ended.status → ServesLine tells old new ws ended
serves-refused tells old mid new ws b n ended line pairs laid read took nothing refuses =
    let survey = word_at ws SURVEY in
    let reads = read-before tells old mid new ws b n line pairs read refuses.only in
    let cause = refused-before old mid new survey ws refuses.opened ended.status took refuses.cause in
    let files : Empties tells old new ws refuses.opened = record {
      empty = refuses.files.empty;
      others = λ other away. refuses.files.others other away ∙ took.rest.files other;
    } in
    record {
      outcome = inl record {
        nothing = nothing;
        untaken = λ k pair. subst (λ (m : ℕ). new.taken (input ws k) ≤ m) (took.others (input ws k) (apart ws n k line pairs pair)) (refuses.untaken (input ws k));
        cause = inr (b, laid, reads, refuses.opened, files, cause);
      };
      settled = read-settles tells old new survey b (λ (b : List ℕ). None) (Calm old new ws) ended.status laid reads (unrefused ended.status) (λ tell none calm. not_opened-settles old new ws refuses.opened ended.status cause calm.0 calm.1);
    }

-- a survey was read, and then there was no room
pub serves-memory : (tells : Bool) (old new : Said) (ws : List (List ℕ)) (b : List ℕ) (n : ℕ) (ended : Ended) → IsLine Serve ws → length ws ≡ 4 + 2 * n → IsLaid b → IsReadWhole tells old new (word_at ws SURVEY) b → OnlyTook old new (word_at ws SURVEY)
    → ended.status ≡ Memory → IsNothing ended.told → ServesLine tells old new ws ended
serves-memory tells old new ws b n ended line pairs laid read took is nothing =
    let survey = word_at ws SURVEY in
    let cause : NotOpened old new ws 0 ended.status = subst (λ (s : status.Status). NotOpened old new ws 0 s) (sym is) (
      omega (arith, pairs),
      record {
        files = λ other. refl;
        unopened = took.rest.unopened;
        reads = took.rest.reads;
        writes = took.rest.writes;
        taken = λ other. refl;
        unkept = took.rest.unkept;
        known = took.rest.known;
      },
    ) in
    let files : Empties tells old new ws 0 = record {
      empty = λ tell k below. absurd (omega (arith, below));
      others = λ other away. took.rest.files other;
    } in
    record {
      outcome = inl record {
        nothing = nothing;
        untaken = λ k pair. at_most _ _ (took.others (input ws k) (apart ws n k line pairs pair));
        cause = inr (b, laid, read, 0, files, cause);
      };
      settled = read-settles tells old new survey b (λ (b : List ℕ). None) (Calm old new ws) ended.status laid read (unrefused ended.status) (λ tell none calm. inr is);
    }

-- a survey was read, and then the sessions served
serves-run : (tells : Bool) (old mid new : Said) (ws : List (List ℕ)) (b : List ℕ) (n : ℕ) (ended : Ended) → IsLine Serve ws → length ws ≡ 4 + 2 * n → IsLaid b → IsReadWhole tells old mid (word_at ws SURVEY) b → OnlyTook old mid (word_at ws SURVEY)
    → RunsAll tells mid new ws b ended → ServesLine tells old new ws ended
serves-run tells old mid new ws b n ended line pairs laid read took run =
    let reads = read-before tells old mid new ws b n line pairs read (runs-only tells old mid new ws b ended line took run) in
    let runs = runs-all tells old mid new ws b ended line took run in
    record {
      outcome = inr (b, laid, reads, runs);
      settled = read-settles tells old new (word_at ws SURVEY) b (λ (b : List ℕ). None) (Calm old new ws) ended.status laid reads (unrefused ended.status) (λ tell none calm. sessions-settle tells old new ws b ended tell runs calm.0 calm.1);
    }

-- a survey was read, and then one of both
pub serves-in : (tells : Bool) (old mid new : Said) (ws : List (List ℕ)) (b : List ℕ) (n : ℕ) (ended : Ended) → IsLine Serve ws → length ws ≡ 4 + 2 * n → IsLaid b → IsReadWhole tells old mid (word_at ws SURVEY) b → OnlyTook old mid (word_at ws SURVEY)
    → ServesIn tells mid new ws b ended → ServesLine tells old new ws ended
serves-in tells old mid new ws b n ended line pairs laid read took (inl none) = serves-refused tells old mid new ws b n ended line pairs laid read took none.0 none.1
serves-in tells old mid new ws b n ended line pairs laid read took (inr run) = serves-run tells old mid new ws b n ended line pairs laid read took run
