-- A run that is finished, by what each call left.
use Rattle.std.proofs.Common.{◌≡◌, ℕ, ◌+◌, ◌*◌, Bool, true, List, [], ◌++◌, All, length, map, sym, ◌∙◌, ap, subst, arith}
use Rattle.std.specs.Prelude.{◌⊎◌, Contains, None}
use Rattle.std.specs.List.{AllZip}
use Rattle.atomic_table.specs.Seated.{TableId}
use Rattle.sessions.specs.declared.end.Reason.{Reason}
use Rattle.sessions.specs.declared.end.SessionEnd.{SessionEnd}
use Rattle.turn_gate.specs.Meaning.{Passed, made_by}
use Rattle.version_store.specs.declared.history.Entry.{Entry}
use Rattle.version_store.specs.Histories.{journal}
use Rattle.version_store.specs.Sharing.{IsOwn, maker}
use Rattle.view_base.specs.Fitting.{word_at}
use Rattle.view_ends.specs.Desk.{Said}
use Rattle.view_commands.specs.declared.places.TheConstants.{JOURNAL, INPUT}
use Rattle.view_commands.specs.declared.told.Ended.{Ended}
use Rattle.view_commands.specs.Run.{first_fault, journal_text, status_at}
use Rattle.view_commands.specs.Steps.{FinishesAll, FinishesRun, IsServed, JoinsAll, OpensAll, RunsAll, Seated}
use Rattle.view_commands.specs.Texts.{KeepsText, OnlyWrote}
use Rattle.view_commands.proofs.Lists.{zip-length}
use Rattle.view_commands.proofs.Passes.{joined-all}

pub run-finished : (tells : Bool) (old mid new : Said) (ws : List (List ℕ)) (seats items : List Seated) (root last : Passed Entry) (before after : List SessionEnd) (kept_before kept_after : List Reason) (name : List ℕ) (ended : Ended)
    → items ≡ seats → before ≡ [] → kept_before ≡ [] → after ≡ before ++ map (λ (seat : Seated). seat.end) items
    → (kept : List Reason) × (kept_after ≡ kept_before ++ kept) × FinishesAll ws 0 items kept old mid → JoinsAll items root last
    → IsOwn last → ended.told.history.items ≡ last.seen
    → All (λ (entry : Entry). (entry.who ≡ 0) ⊎ Contains (map (λ (joined : ℕ × List Entry). joined.0) last.kept) entry.who) last.seen → All (λ (joined : ℕ × List Entry). made_by maker joined.0 last.seen ≡ joined.1) last.kept
    → ended.told.sessions.items ≡ after → name ≡ word_at ws JOURNAL → KeepsText tells mid new name (journal_text (journal ended.told.history.items)) ended.told.journal → OnlyWrote mid new name
    → ended.status ≡ first_fault INPUT (map (λ (end : SessionEnd). end.reason) after) (first_fault INPUT kept_after (status_at JOURNAL JOURNAL ended.told.journal))
    → FinishesRun tells old new ws seats root ended
run-finished tells old mid new ws seats items root last before after kept_before kept_after name ended same none no_kept ends kept joins own history makers made told name_is written only status =
    let kept_is : kept_after ≡ kept.0 = kept.1 ∙ ap (λ (l : List Reason). l ++ kept.0) no_kept in
    let ends_are : ended.told.sessions.items ≡ map (λ (seat : Seated). seat.end) seats =
    told ∙ ends ∙ ap (λ (l : List SessionEnd). l ++ map (λ (seat : Seated). seat.end) items) none ∙ ap (λ (l : List Seated). map (λ (seat : Seated). seat.end) l) same in
    record {
      finished = mid;
      kept = kept.0;
      last = last;
      finishes = subst (λ (l : List Seated). FinishesAll ws 0 l kept.0 old mid) same kept.2;
      joins = subst (λ (l : List Seated). JoinsAll l root last) same joins;
      own = own;
      history = history;
      makers = makers;
      made = made;
      ends = ends_are;
      journal = subst (λ (at : List ℕ). KeepsText tells mid new at (journal_text (journal ended.told.history.items)) ended.told.journal) name_is written;
      only = subst (λ (at : List ℕ). OnlyWrote mid new at) name_is only;
      status = status ∙ ap (λ (l : List SessionEnd). first_fault INPUT (map (λ (end : SessionEnd). end.reason) l) (first_fault INPUT kept_after (status_at JOURNAL JOURNAL ended.told.journal))) (sym told)
          ∙ ap (λ (l : List Reason). first_fault INPUT (map (λ (end : SessionEnd). end.reason) ended.told.sessions.items) (first_fault INPUT l (status_at JOURNAL JOURNAL ended.told.journal))) kept_is;
    }

-- once all passes are joined, the store may be closed
pub joined-out : (seats items : List Seated) (old new : Passed Entry) → items ≡ seats → old.out ≡ length seats → JoinsAll items old new → new.out ≡ 0
joined-out seats items old new same out joins =
    let size : length items ≡ length seats = ap length same in
    let left = (joined-all items old new joins).out in
    omega (arith, size, left, out)

pub joined-same : (items : List Seated) (old new : Passed Entry) → JoinsAll items old new → (new.gate ≡ old.gate) × (new.root ≡ old.root) × (new.turn ≡ old.turn)
joined-same items old new joins =
    let all = joined-all items old new joins in (all.gate, all.root, all.turn)

-- the names were opened, the sessions served and the run finished
pub run-all : (tells : Bool) (old began new : Said) (ws : List (List ℕ)) (b : List ℕ) (gate : TableId) (count : ℕ) (begun served : List Seated) (root first : Passed Entry) (ended : Ended) → length ws ≡ 4 + 2 * count → length begun ≡ count
    → OpensAll tells old began ws gate begun → AllZip (IsServed b) begun served
    → first ≡ record { gate = gate; who = 0; seen = []; mine = []; turn = None; root = true; out = 0; given = 0; kept = [] } → root ≡ record first { out = count; given = count }
    → FinishesRun tells began new ws served root ended → RunsAll tells old new ws b ended
run-all tells old began new ws b gate count begun served root first ended pairs size opens serves first_is root_is finishes = record {
  gate = gate;
  begun = begun;
  served = served;
  began = began;
  opens = opens;
  serves = serves;
  pairs = omega (arith, pairs, size);
  finishes = subst (λ (p : Passed Entry). FinishesRun tells began new ws served p ended) (root_is ∙ ap (λ (p : Passed Entry). record p { out = count; given = count }) first_is ∙ ap split_off (sym size)) finishes;
}
  where
    split_off : ℕ → Passed Entry
    split_off n = record { gate = gate; who = 0; seen = []; mine = []; turn = None; root = true; out = n; given = n; kept = [] }

-- there are as many served sessions as pairs of names
pub served-count : (b : List ℕ) (count : ℕ) (begun served : List Seated) → length begun ≡ count → AllZip (IsServed b) begun served → length served ≡ count
served-count b count begun served size serves = zip-length (IsServed b) begun served serves ∙ size

-- the root, once as many passes are split off
pub root-ready : (gate : TableId) (count n : ℕ) (first root : Passed Entry) → n ≡ count → first ≡ record { gate = gate; who = 0; seen = []; mine = []; turn = None; root = true; out = 0; given = 0; kept = [] } → root ≡ record first { out = count; given = count }
    → root ≡ record { gate = gate; who = 0; seen = []; mine = []; turn = None; root = true; out = n; given = n; kept = [] }
root-ready gate count n first root size first_is root_is = root_is ∙ ap (λ (p : Passed Entry). record p { out = count; given = count }) first_is ∙ ap split_off (sym size)
  where
    split_off : ℕ → Passed Entry
    split_off m = record { gate = gate; who = 0; seen = []; mine = []; turn = None; root = true; out = m; given = m; kept = [] }
