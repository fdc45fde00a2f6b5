-- One session more, of those that are shut or finished in order.
use Rattle.std.proofs.Common.{◌≡◌, ℕ, suc, ◌+◌, ◌≤◌, List, [], ◌∷◌, ◌++◌, Option, length, map, refl, sym, ◌∙◌, ap, subst, arith, append_assoc}
use Rattle.std.specs.Prelude.{Result}
use Rattle.atomic_table.specs.Seated.{TableId}
use Rattle.sessions.specs.Listening.{reason_of}
use Rattle.sessions.specs.declared.end.Reason.{Reason}
use Rattle.sessions.specs.declared.end.SessionEnd.{SessionEnd}
use Rattle.turn_gate.specs.Meaning.{Passed}
use Rattle.version_store.specs.declared.history.Entry.{Entry}
use Rattle.view_ends.specs.Calls.{Shuts, Keeps}
use Rattle.view_ends.specs.Desk.{Said, IsKnown}
use Rattle.view_ends.specs.Ends.{NoneForgotten}
use Rattle.view_ends.specs.Pieces.{SourceSaid, SinkSaid}
use Rattle.view_ends.specs.declared.fault.EndFault.{EndFault}
use Rattle.view_commands.specs.Run.{input, output, HasPair}
use Rattle.view_commands.specs.Steps.{CanFinish, EachFrom, Finishes, FinishesAll, IsUnread, Joins, JoinsAll, Seated, ShutsUnread}
use Rattle.view_commands.proofs.Lists.{each-map}
use Rattle.view_commands.proofs.Openings.{unread-one, unread-then}

pub each-first : {X : Type 0} (P : ℕ → X → Type 0) (k : ℕ) (x : X) (xs all : List X) → all ≡ x ∷ xs → EachFrom P k all → P k x
each-first {X} P k x xs all is each = (subst (λ (l : List X). EachFrom P k l) is each).0

pub each-others : {X : Type 0} (P : ℕ → X → Type 0) (k : ℕ) (x : X) (xs all : List X) → all ≡ x ∷ xs → EachFrom P k all → EachFrom P (k + 1) xs
each-others {X} P k x xs all is each = (subst (λ (l : List X). EachFrom P k l) is each).1

-- a session was finished, by the parts of its seat
pub finishes-one : (old mid new : Said) (ws : List (List ℕ)) (k : ℕ) (read written : List ℕ) (left got : Option (List ℕ)) (taken faults failed : ℕ) (outcome : Result (Unit {0}) EndFault) (kept : Reason) (seat : Seated)
    → read ≡ input ws k → written ≡ output ws k → seat.input ≡ record { left = left; taken = taken; faults = faults } → seat.output ≡ record { got = got; faults = failed }
    → Shuts old mid read taken faults → Keeps mid new written got failed outcome → kept ≡ reason_of outcome → Finishes old new (input ws k) (output ws k) seat kept
finishes-one old mid new ws k read written left got taken faults failed outcome kept seat read_is written_is input_is output_is shuts keeps kept_is =
    let told = subst (λ (s : SourceSaid). Shuts old mid read s.taken s.faults) (sym input_is) shuts in
    let held = subst (λ (s : SinkSaid). Keeps mid new written s.got s.faults outcome) (sym output_is) keeps in
    record {
      shut = mid;
      shuts = subst (λ (name : List ℕ). Shuts old mid name seat.input.taken seat.input.faults) read_is told;
      outcome = outcome;
      keeps = subst (λ (name : List ℕ). Keeps mid new name seat.output.got seat.output.faults outcome) written_is held;
      kept_is = kept_is;
    }

finishes-known : (old new : Said) (input output : List ℕ) (seat : Seated) (kept : Reason) → Finishes old new input output seat kept → NoneForgotten (IsKnown old) (IsKnown new)
finishes-known old new input output seat kept is = λ other known. is.keeps.rest.known other (is.shuts.rest.known other known)

-- the sessions after one that was finished may be finished
pub finish-others : (old new : Said) (ws : List (List ℕ)) (gate : TableId) (k : ℕ) (seat : Seated) (seats all : List Seated) (kept : Reason) → all ≡ seat ∷ seats → Finishes old new (input ws k) (output ws k) seat kept
    → EachFrom (CanFinish old ws gate) k all → EachFrom (CanFinish new ws gate) (k + 1) seats
finish-others old new ws gate k seat seats all kept is finishes each =
    let known = finishes-known old new (input ws k) (output ws k) seat kept finishes in
    each-map (CanFinish old ws gate) (CanFinish new ws gate) (k + 1) seats
    (λ j one can. record { input_known = known (input ws j) can.input_known; output_known = known (output ws j) can.output_known; gate_is = can.gate_is; split = can.split; outside = can.outside })
    (each-others (CanFinish old ws gate) k seat seats all is each)

pub finishes-more : (ws : List (List ℕ)) (k : ℕ) (seat : Seated) (seats all : List Seated) (old mid new : Said) (before middle after : List Reason) → all ≡ seat ∷ seats
    → (one : Reason) × (middle ≡ before ++ one ∷ []) × Finishes old mid (input ws k) (output ws k) seat one
    → (kept : List Reason) × (after ≡ middle ++ kept) × FinishesAll ws (k + 1) seats kept mid new
    → (kept : List Reason) × (after ≡ before ++ kept) × FinishesAll ws k all kept old new
finishes-more ws k seat seats all old mid new before middle after is first others = (
  first.0 ∷ others.0,
  others.1 ∙ ap (λ (l : List Reason). l ++ others.0) first.1 ∙ append_assoc before (first.0 ∷ []) others.0,
  subst (λ (l : List Seated). FinishesAll ws k l (first.0 ∷ others.0) old new) (sym is) (mid, first.2, others.2),
)

pub joins-more : (seat : Seated) (seats all : List Seated) (old mid new : Passed Entry) → all ≡ seat ∷ seats → Joins old mid seat.pass → JoinsAll seats mid new → JoinsAll all old new
joins-more seat seats all old mid new is first others = subst (λ (l : List Seated). JoinsAll l old new) (sym is) (mid, first, others)

pub ends-more : (seat : Seated) (seats all : List Seated) (before middle after : List SessionEnd) → all ≡ seat ∷ seats → middle ≡ before ++ seat.end ∷ [] → after ≡ middle ++ map (λ (one : Seated). one.end) seats → after ≡ before ++ map (λ (one : Seated). one.end) all
ends-more seat seats all before middle after is first others =
    others ∙ ap (λ (l : List SessionEnd). l ++ map (λ (one : Seated). one.end) seats) first ∙ append_assoc before (seat.end ∷ []) (map (λ (one : Seated). one.end) seats)
    ∙ ap (λ (l : List Seated). before ++ map (λ (one : Seated). one.end) l) (sym is)

-- an unread input was shut
pub shuts-one : (old new : Said) (ws : List (List ℕ)) (k : ℕ) (name : List ℕ) (left : Option (List ℕ)) (taken faults : ℕ) (seat : Seated) → HasPair ws k → name ≡ input ws k → seat.input ≡ record { left = left; taken = taken; faults = faults }
    → IsUnread old ws k seat → Shuts old new name taken faults → ShutsUnread old new ws
shuts-one old new ws k name left taken faults seat pair is input_is unread shuts =
    unread-one old new ws k taken faults pair (sym (ap (λ (s : SourceSaid). s.taken) input_is) ∙ unread.untaken) (sym (ap (λ (s : SourceSaid). s.faults) input_is) ∙ unread.faultless)
    (subst (λ (at : List ℕ). Shuts old new at taken faults) is shuts)

-- the inputs after one that was shut are still unread
pub unread-others : (old new : Said) (ws : List (List ℕ)) (k : ℕ) (seat : Seated) (seats all : List Seated) → all ≡ seat ∷ seats → NoneForgotten (IsKnown old) (IsKnown new) → EachFrom (IsUnread old ws) k all → EachFrom (IsUnread new ws) (k + 1) seats
unread-others old new ws k seat seats all is known each =
    each-map (IsUnread old ws) (IsUnread new ws) (k + 1) seats (λ j one unread. record { untaken = unread.untaken; faultless = unread.faultless; known = known (input ws j) unread.known })
    (each-others (IsUnread old ws) k seat seats all is each)

-- what was known before sessions were finished is known after it
pub all-known : (ws : List (List ℕ)) (k : ℕ) (seats : List Seated) (kept : List Reason) (old new : Said) → FinishesAll ws k seats kept old new → NoneForgotten (IsKnown old) (IsKnown new)
all-known ws k [] [] old new is other known = subst (λ (said : Said). IsKnown said other) (sym is) known
all-known ws k [] (one ∷ kept) old new is other known = absurd is
all-known ws k (seat ∷ seats) [] old new is other known = absurd is
all-known ws k (seat ∷ seats) (one ∷ kept) old new is other known =
    all-known ws (k + 1) seats kept is.0 new is.2 other (finishes-known old is.0 (input ws k) (output ws k) seat one is.1 other known)

kept_each : (ws : List (List ℕ)) (k : ℕ) (seats : List Seated) (kept : List Reason) (old new : Said) → FinishesAll ws k seats kept old new → length kept ≡ length seats
kept_each ws k [] [] old new is = refl
kept_each ws k [] (one ∷ kept) old new is = absurd is
kept_each ws k (seat ∷ seats) [] old new is = absurd is
kept_each ws k (seat ∷ seats) (one ∷ kept) old new is = ap (λ (n : ℕ). suc n) (kept_each ws (k + 1) seats kept is.0 new is.2)

-- no more outcomes are noted than there are sessions
pub few-kept : (ws : List (List ℕ)) (k most : ℕ) (seats : List Seated) (before after : List Reason) (old new : Said) → before ≡ [] → (kept : List Reason) × (after ≡ before ++ kept) × FinishesAll ws k seats kept old new → length seats ≤ most → length after ≤ most
few-kept ws k most seats before after old new none kept few =
    let same : length after ≡ length kept.0 = ap length (kept.1 ∙ ap (λ (l : List Reason). l ++ kept.0) none) in
    let size = kept_each ws k seats kept.0 old new kept.2 in
    omega (arith, same, size, few)
