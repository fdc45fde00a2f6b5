-- Sessions that were opened, and then served.
use Rattle.std.proofs.Common.{◌≡◌, ◌≢◌, ℕ, ◌+◌, ◌<◌, List, [], ◌∷◌, Bool, true, false, All, Option, Some, None, refl, sym, ◌∙◌, ap, subst, arith}
use Rattle.std.specs.Prelude.{IsTrue, IsSome}
use Rattle.std.specs.List.{AllZip}
use Rattle.std.proofs.lemmas.List.Elements.{All-nil, All-cons}
use Rattle.atomic_table.specs.Seated.{TableId}
use Rattle.sessions.specs.Listening.{Read, Wrote}
use Rattle.sessions.specs.Session.{Served}
use Rattle.sessions.specs.Worlds.{HasGivenBack}
use Rattle.turn_gate.specs.Meaning.{Passed, made_by}
use Rattle.version_store.specs.declared.history.Entry.{Entry}
use Rattle.version_store.specs.Histories.{numbered}
use Rattle.version_store.specs.Sharing.{maker}
use Rattle.view_ends.specs.Desk.{Said}
use Rattle.view_commands.specs.Run.{input, output}
use Rattle.view_commands.specs.Steps.{CanFinish, CanServe, EachFrom, IsOpened, IsServed, Seated}
use Rattle.view_commands.proofs.Lists.{each-zip}

-- session k, once it was served over a survey with these bytes
pub record WasServed (tells : Bool) (old : Said) (ws : List (List ℕ)) (b : List ℕ) (k : ℕ) (seat : Seated) : Type 0 where
  pub left : Option (List ℕ)
  pub there : IsTrue tells → IsSome left
  pub script : ((j : ℕ) → j < k → output ws j ≢ input ws k) → left ≡ old.file (input ws k)
  pub emptied : IsTrue tells → (j : ℕ) → j < k → output ws j ≡ input ws k → left ≡ Some []
  pub start : Option (List ℕ)
  pub empty : IsTrue tells → start ≡ Some []
  pub served : Served b [] seat.pass.seen (k + 1) left start seat.output.got seat.end.marks.items seat.end.reason seat.end.taken
  pub who : seat.pass.who ≡ k + 1
  pub own : made_by maker (k + 1) seat.pass.seen ≡ seat.pass.mine
  pub given_back : HasGivenBack seat.pass.seen (k + 1)
  pub taken : seat.input.taken ≡ seat.end.taken
  pub reads_before : ℕ
  pub unread : reads_before ≡ 0
  pub reads : Read reads_before seat.input.faults seat.end.reason
  pub writes_before : ℕ
  pub unwritten : writes_before ≡ 0
  pub writes : Wrote writes_before seat.output.faults seat.end.reason

was-served : (tells : Bool) (old new : Said) (ws : List (List ℕ)) (gate : TableId) (b : List ℕ) (k : ℕ) (before after : Seated) → IsOpened tells old new ws gate k before → IsServed b before after → WasServed tells old ws b k after
was-served tells old new ws gate b k before after opened served =
    let seen : before.pass.seen ≡ [] = ap (λ (p : Passed Entry). p.seen) opened.fresh.pass in
    let who : before.pass.who ≡ k + 1 = ap (λ (p : Passed Entry). p.who) opened.fresh.pass in
    let who_after : after.pass.who ≡ k + 1 = ap (λ (p : Passed Entry). p.who) served.pass ∙ who in
    let same : Served b [] after.pass.seen (k + 1) before.input.left before.output.got after.output.got after.end.marks.items after.end.reason after.end.taken =
    subst (λ (n : ℕ). Served b [] after.pass.seen n before.input.left before.output.got after.output.got after.end.marks.items after.end.reason after.end.taken) who
    (subst (λ (h : List Entry). Served b h after.pass.seen before.pass.who before.input.left before.output.got after.output.got after.end.marks.items after.end.reason after.end.taken) seen served.served) in
    record {
      left = before.input.left;
      there = opened.fresh.there;
      script = opened.script;
      emptied = opened.emptied;
      start = before.output.got;
      empty = opened.fresh.unwritten.empty;
      served = same;
      who = who_after;
      own = subst (λ (n : ℕ). made_by maker n after.pass.seen ≡ after.pass.mine) who_after served.own.own;
      given_back = subst (λ (n : ℕ). HasGivenBack after.pass.seen n) who served.given_back;
      taken = served.taken ∙ ap (λ (n : ℕ). n + after.end.taken) opened.fresh.untaken ∙ omega arith;
      reads_before = before.input.faults;
      unread = opened.fresh.faultless;
      reads = served.reads;
      writes_before = before.output.faults;
      unwritten = opened.fresh.unwritten.faultless;
      writes = served.writes;
    }

pub served-each : (tells : Bool) (old new : Said) (ws : List (List ℕ)) (gate : TableId) (b : List ℕ) (begun served : List Seated) → EachFrom (IsOpened tells old new ws gate) 0 begun → AllZip (IsServed b) begun served → EachFrom (WasServed tells old ws b) 0 served
served-each tells old new ws gate b begun served opened serves =
    each-zip (IsOpened tells old new ws gate) (IsServed b) (WasServed tells old ws b) 0 begun served (λ k before after. was-served tells old new ws gate b k before after) opened serves

can-finish : (tells : Bool) (old new : Said) (ws : List (List ℕ)) (gate : TableId) (b : List ℕ) (k : ℕ) (before after : Seated) → IsOpened tells old new ws gate k before → IsServed b before after → CanFinish new ws gate k after
can-finish tells old new ws gate b k before after opened served = record {
  input_known = opened.input_known;
  output_known = opened.output_known;
  gate_is = ap (λ (p : Passed Entry). p.gate) served.pass ∙ ap (λ (p : Passed Entry). p.gate) opened.fresh.pass;
  split = ap (λ (p : Passed Entry). p.root) served.pass ∙ ap (λ (p : Passed Entry). p.root) opened.fresh.pass;
  outside = ap (λ (p : Passed Entry). p.turn) served.pass ∙ ap (λ (p : Passed Entry). p.turn) opened.fresh.pass;
}

-- sessions that were served may be finished
pub finish-each : (tells : Bool) (old new : Said) (ws : List (List ℕ)) (gate : TableId) (b : List ℕ) (begun served : List Seated) → EachFrom (IsOpened tells old new ws gate) 0 begun → AllZip (IsServed b) begun served → EachFrom (CanFinish new ws gate) 0 served
finish-each tells old new ws gate b begun served opened serves =
    each-zip (IsOpened tells old new ws gate) (IsServed b) (CanFinish new ws gate) 0 begun served (λ k before after. can-finish tells old new ws gate b k before after) opened serves

-- a caller without entries owes no pin
none_owed : (who : ℕ) → HasGivenBack [] who
unfolding numbered
none_owed who v = refl

-- sessions that were opened may be served
pub serve-each : (tells : Bool) (old new : Said) (ws : List (List ℕ)) (gate : TableId) (k : ℕ) (seats : List Seated) → EachFrom (IsOpened tells old new ws gate) k seats → All (CanServe gate) seats
serve-each tells old new ws gate k [] each = All-nil _
serve-each tells old new ws gate k (seat ∷ seats) each = All-cons (CanServe gate) seat seats (ready each.0) (serve-each tells old new ws gate (k + 1) seats each.1)
  where
    ready : IsOpened tells old new ws gate k seat → CanServe gate seat
    ready opened = record {
      gate_is = ap (λ (p : Passed Entry). p.gate) opened.fresh.pass;
      outside = ap (λ (p : Passed Entry). p.turn) opened.fresh.pass;
      own = opened.fresh.own;
      given_back = subst (λ (h : List Entry). HasGivenBack h seat.pass.who) (sym (ap (λ (p : Passed Entry). p.seen) opened.fresh.pass)) (none_owed seat.pass.who);
    }

-- what holds of a session that was served, where its seat before is told in two ways
pub is_served-same : (b : List ℕ) (inside old new : Seated) → inside ≡ old → IsServed b inside new → IsServed b old new
is_served-same b inside old new same served = subst (λ (seat : Seated). IsServed b seat new) same served
