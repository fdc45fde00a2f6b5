-- The sessions of a `serve`, put together of what its steps leave.
use Rattle.std.proofs.Common.{◌≡◌, ◌≢◌, ℕ, zero, suc, ◌+◌, ◌*◌, ◌<◌, ◌≤◌, Bool, true, List, [], ◌∷◌, All, length, map, sym, ◌∙◌, ap, subst, arith}
use Rattle.std.specs.Prelude.{None, Some, slice_get}
use Rattle.std.proofs.lemmas.List.{length-map}
use Rattle.std.proofs.lemmas.List.Elements.{All-nil, All-cons, All-map}
use mathlib.Core.List.{IsPrefix}
use Rattle.atomic_table.specs.Seated.{TableId}
use Rattle.sessions.specs.declared.end.Reason as reason
use Rattle.sessions.specs.declared.end.SessionEnd.{SessionEnd}
use Rattle.sessions.specs.Worlds.{HasGivenBack}
use Rattle.sessions.proofs.Later.{Served-later}
use Rattle.turn_gate.specs.Meaning.{Passed, made_by}
use Rattle.version_store.specs.declared.history.Entry.{Entry}
use Rattle.version_store.specs.Histories.{journal, held, IsGivenBack, IsLegal}
use Rattle.version_store.specs.Sharing.{maker}
use Rattle.version_store.proofs.HeldLaws.{held_current}
use Rattle.view_base.specs.Fitting.{word_at}
use Rattle.view_ends.specs.Desk.{Said, Untouched}
use Rattle.view_ends.specs.Ends.{RoseBy}
use Rattle.view_words.specs.CommandLine.{IsLine}
use Rattle.view_words.specs.declared.row.Row.TheVariants.{Serve}
use Rattle.view_words.proofs.RowNames.{in_not_survey, out_not_journal}
use Rattle.view_commands.specs.declared.places.TheConstants.{SURVEY, JOURNAL}
use Rattle.view_commands.specs.declared.told.Ended.{Ended}
use Rattle.view_commands.specs.Run.{input, output, RunsSession, RunsSessions}
use Rattle.view_commands.specs.Steps.{EachFrom, FinishesRun, OnlyInputs, RunsAll, Seated, root_of}
use Rattle.view_commands.specs.Texts.{OnlyTook, OnlyWrote}
use Rattle.view_commands.proofs.Begun.{WasServed, served-each}
use Rattle.view_commands.proofs.Faults.{kept_file}
use Rattle.view_commands.proofs.Finished.{AreFinished, IsFinished, finished-after, finished-all, finished-before}
use Rattle.view_commands.proofs.Lists.{all_map-at, at-within, below, each-at, slice_get-map, zip-length}
use Rattle.view_commands.proofs.Passes.{AreJoined, given_back-all, given_back-later, joined-all, kept_pass, makers-all}
use Rattle.view_commands.proofs.Written.{keeps-earlier}

-- one session of a run, from before its survey was read until after the journal was written
session-runs : (tells : Bool) (old mid began finished new : Said) (ws : List (List ℕ)) (b : List ℕ) (n k : ℕ) (seats : List Seated) (kept : List reason.Reason) (h : List Entry) (seat : Seated) (one : reason.Reason)
    → IsLine Serve ws → length ws ≡ 4 + 2 * n → k < n → OnlyTook old mid (word_at ws SURVEY) → Untouched (record mid { file = began.file }) began
    → IsFinished began finished (input ws k) (output ws k) seat one → OnlyWrote finished new (word_at ws JOURNAL) → WasServed tells mid ws b k seat → IsPrefix seat.pass.seen h → made_by maker (k + 1) h ≡ seat.pass.mine
    → RunsSession tells old new ws b h k seat.end one
session-runs tells old mid began finished new ws b n k seats kept h seat one line pairs within took rest is only was begins made =
    let here : input ws k ≢ word_at ws SURVEY = in_not_survey ws n k line pairs within in
    let there : output ws k ≢ word_at ws JOURNAL = out_not_journal ws n k line pairs within in
    let base = finished-before old began finished (input ws k) (output ws k) seat one
    (rest.taken (input ws k) ∙ took.others (input ws k) here)
    (rest.reads (input ws k) ∙ took.rest.reads (input ws k))
    (rest.unopened (input ws k) ∙ took.rest.unopened (input ws k))
    (rest.writes (output ws k) ∙ took.rest.writes (output ws k))
    (rest.unkept (output ws k) ∙ took.rest.unkept (output ws k)) is in
    let whole = finished-after old finished new (input ws k) (output ws k) seat one
    (only.rest.taken (input ws k)) (only.rest.reads (input ws k)) (only.rest.unopened (input ws k))
    (only.writes (output ws k) there) (only.unkept (output ws k) there) (only.files (output ws k) there) base in
    record {
      left = was.left;
      there = was.there;
      script = λ apart. was.script apart ∙ took.rest.files (input ws k);
      emptied = was.emptied;
      start = was.start;
      empty = was.empty;
      got = seat.output.got;
      served = Served-later b [] seat.pass.seen h (k + 1) was.left was.start seat.output.got seat.end.marks.items seat.end.reason seat.end.taken was.served begins (was.own ∙ sym made);
      taken = subst (λ (m : ℕ). RoseBy m (old.taken (input ws k)) (new.taken (input ws k))) was.taken whole.taken;
      opened = whole.opened;
      read = whole.read was.reads_before was.unread was.reads;
      wrote = whole.wrote was.writes_before was.unwritten was.writes;
      keeping = whole.keeping;
      output_file = kept_file old new (output ws k) seat.output.got one whole.keeping;
    }

-- the numbers of the passes are 1 and on
whos-within : (tells : Bool) (old : Said) (ws : List (List ℕ)) (b : List ℕ) (n k : ℕ) (seats : List Seated) → k + length seats ≤ n → EachFrom (WasServed tells old ws b) k seats → All (λ (seat : Seated). (1 ≤ seat.pass.who) × (seat.pass.who ≤ n)) seats
whos-within tells old ws b n k [] fits each = All-nil _
whos-within tells old ws b n k (seat ∷ seats) fits each =
    let who = each.0.who in
    All-cons (λ (s : Seated). (1 ≤ s.pass.who) × (s.pass.who ≤ n)) seat seats (omega (arith, who), omega (arith, who, fits)) (whos-within tells old ws b n (k + 1) seats (omega (arith, fits)) each.1)

-- a run whose sessions were served, seen from before the survey was read
module _ (tells : Bool) (old mid new : Said) (ws : List (List ℕ)) (b : List ℕ) (ended : Ended) (line : IsLine Serve ws) (took : OnlyTook old mid (word_at ws SURVEY)) (run : RunsAll tells mid new ws b ended) where
  abbrev fin : FinishesRun tells run.began new ws run.served (root_of run.gate (length run.begun)) ended
  fin = run.finishes

  abbrev n : ℕ
  n = length run.begun

  same_size : length run.served ≡ n
  same_size = zip-length _ run.begun run.served run.serves

  are : AreFinished run.began fin.finished ws 0 run.served fin.kept
  are = finished-all ws n 0 run.served fin.kept run.began fin.finished line run.pairs (omega (arith, same_size)) fin.finishes

  joined : AreJoined (root_of run.gate n) fin.last run.served
  joined = joined-all run.served (root_of run.gate n) fin.last fin.joins

  served : EachFrom (WasServed tells mid ws b) 0 run.served
  served = served-each tells mid run.began ws run.gate b run.begun run.served run.opens.each run.serves

  whos : All (λ (who : ℕ). (1 ≤ who) × (who ≤ n)) (map (λ (pass : ℕ × List Entry). pass.0) fin.last.kept)
  whos = subst (λ (l : List (ℕ × List Entry)). All (λ (who : ℕ). (1 ≤ who) × (who ≤ n)) (map (λ (pass : ℕ × List Entry). pass.0) l)) (sym joined.kept)
      (All-map (λ (who : ℕ). (1 ≤ who) × (who ≤ n)) (λ (pass : ℕ × List Entry). pass.0) (map kept_pass run.served)
      (All-map (λ (pass : ℕ × List Entry). (1 ≤ pass.0) × (pass.0 ≤ n)) kept_pass run.served (whos-within tells mid ws b n 0 run.served (omega (arith, same_size)) served)))

  root_made : made_by maker 0 fin.last.seen ≡ []
  root_made = ap (λ (who : ℕ). made_by maker who fin.last.seen) (sym joined.who) ∙ fin.own.own ∙ joined.mine

  makers : All (λ (entry : Entry). (1 ≤ entry.who) × (entry.who ≤ n)) fin.last.seen
  makers = makers-all fin.last.seen (map (λ (pass : ℕ × List Entry). pass.0) fin.last.kept) n root_made whos fin.makers

  was : (k : ℕ) (seat : Seated) → slice_get run.served k ≡ Some seat → WasServed tells mid ws b k seat
  was k seat is = subst (λ (m : ℕ). WasServed tells mid ws b m seat) (omega arith) (each-at (WasServed tells mid ws b) 0 run.served k seat served is)

  made : (k : ℕ) (seat : Seated) → slice_get run.served k ≡ Some seat → made_by maker (k + 1) fin.last.seen ≡ seat.pass.mine
  made k seat is =
      let all = subst (λ (l : List (ℕ × List Entry)). All (λ (pass : ℕ × List Entry). made_by maker pass.0 fin.last.seen ≡ pass.1) l) joined.kept fin.made in
      ap (λ (who : ℕ). made_by maker who fin.last.seen) (sym (was k seat is).who) ∙ all_map-at (λ (pass : ℕ × List Entry). made_by maker pass.0 fin.last.seen ≡ pass.1) kept_pass run.served k seat all is

  given_back : IsGivenBack fin.last.seen
  given_back = given_back-all fin.last.seen n makers each
    where
      each : (who : ℕ) → 1 ≤ who → who ≤ n → HasGivenBack fin.last.seen who
      each zero some few = absurd (omega (arith, some))
      each (suc k) some few =
          let one = at-within run.served k (omega (arith, same_size, few)) in
          let it = was k one.0 one.1 in
          subst (λ (who : ℕ). HasGivenBack fin.last.seen who) (omega arith) (given_back-later (k + 1) one.0.pass.seen fin.last.seen (joined.each k one.0 one.1) (it.own ∙ sym (made k one.0 one.1)) it.given_back)

  count : length ended.told.sessions.items ≡ n
  count = ap length fin.ends ∙ length-map run.served (λ (seat : Seated). seat.end) ∙ same_size

  each : (k : ℕ) (end : SessionEnd) (keeping : reason.Reason) → slice_get ended.told.sessions.items k ≡ Some end → slice_get fin.kept k ≡ Some keeping → RunsSession tells old new ws b fin.last.seen k end keeping
  each k end keeping is also =
      let found = slice_get-map (λ (seat : Seated). seat.end) run.served k end (subst (λ (l : List SessionEnd). slice_get l k ≡ Some end) fin.ends is) in
      let within : k < n = (let inside = below run.served k found.0 found.1 in omega (arith, inside, same_size)) in
      let finished = subst (λ (m : ℕ). IsFinished run.began fin.finished (input ws m) (output ws m) found.0 keeping) (omega arith) (are.each k found.0 keeping found.1 also) in
      subst (λ (e : SessionEnd). RunsSession tells old new ws b fin.last.seen k e keeping) (sym found.2)
      (session-runs tells old mid run.began fin.finished new ws b n k run.served fin.kept fin.last.seen found.0 keeping line run.pairs within took run.opens.rest finished fin.only (was k found.0 found.1) (joined.each k found.0 found.1) (made k found.0 found.1))

  journal_apart : (k : ℕ) → k < length run.served → word_at ws JOURNAL ≢ output ws (0 + k)
  journal_apart k inside same = out_not_journal ws n k line run.pairs (omega (arith, inside, same_size)) (sym (same ∙ ap (output ws) (omega arith)))

  -- of what reading counts it changed only that of inputs
  pub runs-only : OnlyInputs mid new ws
  runs-only = record {
    unopened = λ other apart. fin.only.rest.unopened other ∙ are.opening other ∙ run.opens.rest.unopened other;
    reads = λ other apart. fin.only.rest.reads other ∙ (are.reading other (λ k inside same. apart k (omega (arith, inside, same_size, run.pairs)) (same ∙ ap (input ws) (omega arith)))).1 ∙ run.opens.rest.reads other;
    taken = λ other apart. fin.only.rest.taken other ∙ (are.reading other (λ k inside same. apart k (omega (arith, inside, same_size, run.pairs)) (same ∙ ap (input ws) (omega arith)))).0 ∙ run.opens.rest.taken other;
  }

  pub runs-all : RunsSessions tells old new ws b ended
  runs-all =
      let writes = are.writing (word_at ws JOURNAL) journal_apart in
      record {
        pairs = omega (arith, run.pairs, count);
        kept = fin.kept;
        each_kept = are.each_kept ∙ same_size ∙ sym count;
        legal = subst IsLegal (sym fin.history) fin.own.legal;
        makers = subst (λ (m : ℕ). All (λ (entry : Entry). (1 ≤ entry.who) × (entry.who ≤ m)) ended.told.history.items) (sym count)
            (subst (λ (h : List Entry). All (λ (entry : Entry). (1 ≤ entry.who) × (entry.who ≤ n)) h) (sym fin.history) makers);
        newest_held = subst (λ (h : List Entry). held h ≡ (length (journal h), 0) ∷ []) (sym fin.history) (held_current fin.last.seen given_back);
        sessions = λ k end keeping is also. subst (λ (h : List Entry). RunsSession tells old new ws b h k end keeping) (sym fin.history) (each k end keeping is also);
        journal_file = keeps-earlier tells old fin.finished new (word_at ws JOURNAL) _ ended.told.journal
            (writes.1 ∙ run.opens.rest.writes (word_at ws JOURNAL) ∙ took.rest.writes (word_at ws JOURNAL))
            (writes.2 ∙ run.opens.rest.unkept (word_at ws JOURNAL) ∙ took.rest.unkept (word_at ws JOURNAL)) fin.journal;
        status = fin.status;
        reading = λ other apart too. (
          runs-only.unopened other apart ∙ took.rest.unopened other,
          runs-only.reads other apart ∙ took.rest.reads other,
          runs-only.taken other apart ∙ took.others other too,
        );
        writing = λ other apart too.
            let kept = are.writing other (λ k inside same. apart k (omega (arith, inside, same_size, run.pairs)) (same ∙ ap (output ws) (omega arith))) in (
              fin.only.files other too ∙ kept.0 ∙ run.opens.files other apart too ∙ took.rest.files other,
              fin.only.writes other too ∙ kept.1 ∙ run.opens.rest.writes other ∙ took.rest.writes other,
              fin.only.unkept other too ∙ kept.2 ∙ run.opens.rest.unkept other ∙ took.rest.unkept other,
            );
      }
