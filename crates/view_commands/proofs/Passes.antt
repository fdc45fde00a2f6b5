-- The root of the passes once all are joined, and the one history that they made.
use Rattle.std.proofs.Common.{◌≡◌, ℕ, zero, suc, ◌+◌, ◌-◌, ◌*◌, ◌<◌, ◌≤◌, ◌==◌, Bool, true, false, List, [], ◌∷◌, ◌++◌, length, map, All, refl, sym, ◌∙◌, ap, subst, arith, inl, inr, append-nil, append_assoc}
use Rattle.std.specs.Prelude.{◌⊎◌, Contains, Option, None, Some, slice_get, if◌then◌else◌}
use Rattle.std.proofs.lemmas.Bool.{cases_lt, cases_eq}
use Rattle.std.proofs.lemmas.Bool.Decides.{nat_tests}
use Rattle.std.proofs.lemmas.List.Elements.{All-contains, All-map, All-weaker, All-nil, All-cons, All-head, All-tail}
use mathlib.Core.List.{IsPrefix}
use Rattle.atomic_table.specs.Seated.{TableId}
use Rattle.turn_gate.specs.Meaning.{Passed, made_by}
use Rattle.turn_gate.proofs.Beginnings.{prefix_self, prefix_nil, prefix_trans}
use Rattle.turn_gate.proofs.Makers.{made_by_none}
use Rattle.version_store.specs.declared.history.Entry.{Entry}
use Rattle.version_store.specs.Histories.{numbered, entries_by, how_many, is_pin, is_unpin, IsGivenBack}
use Rattle.version_store.specs.Sharing.{maker}
use Rattle.version_store.proofs.SharedCalls.{entries_by-later}
use Rattle.sessions.specs.Worlds.{HasGivenBack}
use Rattle.view_commands.specs.Steps.{Joins, JoinsAll, Seated}

-- a joined pass, as the root keeps it
abbrev pub kept_pass : Seated → ℕ × List Entry
kept_pass seat = (seat.pass.who, seat.pass.mine)

pub record AreJoined (old new : Passed Entry) (seats : List Seated) : Type 0 where
  pub gate : new.gate ≡ old.gate
  pub who : new.who ≡ old.who
  pub mine : new.mine ≡ old.mine
  pub turn : new.turn ≡ old.turn
  pub root : new.root ≡ old.root
  pub out : new.out ≡ old.out - length seats
  pub kept : new.kept ≡ old.kept ++ map kept_pass seats
  pub before : IsPrefix old.seen new.seen
  pub each : (k : ℕ) (seat : Seated) → slice_get seats k ≡ Some seat → IsPrefix seat.pass.seen new.seen

pub joined-all : (seats : List Seated) (old new : Passed Entry) → JoinsAll seats old new → AreJoined old new seats
joined-all [] old new joins = record {
  gate = ap (λ (p : Passed Entry). p.gate) joins;
  who = ap (λ (p : Passed Entry). p.who) joins;
  mine = ap (λ (p : Passed Entry). p.mine) joins;
  turn = ap (λ (p : Passed Entry). p.turn) joins;
  root = ap (λ (p : Passed Entry). p.root) joins;
  out = ap (λ (p : Passed Entry). p.out) joins ∙ omega arith;
  kept = ap (λ (p : Passed Entry). p.kept) joins ∙ sym (append-nil old.kept);
  before = subst (λ (p : Passed Entry). IsPrefix old.seen p.seen) (sym joins) (prefix_self old.seen);
  each = λ k seat is. absurd (cc is);
}
joined-all (seat ∷ seats) old new joins =
    let mid = joins.0 in
    let first : Joins old mid seat.pass = joins.1 in
    let rest = joined-all seats mid new joins.2 in
    record {
      gate = rest.gate ∙ ap (λ (p : Passed Entry). p.gate) first.root;
      who = rest.who ∙ ap (λ (p : Passed Entry). p.who) first.root;
      mine = rest.mine ∙ ap (λ (p : Passed Entry). p.mine) first.root;
      turn = rest.turn ∙ ap (λ (p : Passed Entry). p.turn) first.root;
      root = rest.root ∙ ap (λ (p : Passed Entry). p.root) first.root;
      out =
          let one : mid.out ≡ old.out - 1 = ap (λ (p : Passed Entry). p.out) first.root in
          let others = rest.out in
          omega (arith, one, others);
      kept = rest.kept ∙ ap (λ (l : List (ℕ × List Entry)). l ++ map kept_pass seats) (ap (λ (p : Passed Entry). p.kept) first.root) ∙ append_assoc old.kept (kept_pass seat ∷ []) (map kept_pass seats);
      before = prefix_trans old.seen mid.seen new.seen first.before rest.before;
      each = λ k this is. each mid first rest k this is;
    }
  where
    each : (mid : Passed Entry) → Joins old mid seat.pass → AreJoined mid new seats → (k : ℕ) (this : Seated) → slice_get (seat ∷ seats) k ≡ Some this → IsPrefix this.pass.seen new.seen
    each mid first rest zero this is =
        let same : seat ≡ this = cc is in
        subst (λ (s : Seated). IsPrefix s.pass.seen new.seen) same (prefix_trans seat.pass.seen mid.seen new.seen first.joined rest.before)
    each mid first rest (suc k) this is = rest.each k this is

-- who made nothing made no entry
none_made : (who : ℕ) (h : List Entry) → made_by maker who h ≡ [] → All (λ (entry : Entry). entry.who ≡ who → ⊥) h
none_made who [] none = All-nil _
none_made who (entry ∷ h) none = elim (cases_eq entry.who who) [
  | inl own ↦ absurd (is_none (made_by maker who h) entry (ap (λ (b : Bool). if b then entry ∷ made_by maker who h else made_by maker who h) (sym (own_test own)) ∙ none))
  | inr other ↦ All-cons (λ (e : Entry). e.who ≡ who → ⊥) entry h other (none_made who h (ap (λ (b : Bool). if b then entry ∷ made_by maker who h else made_by maker who h) (sym (other_test other)) ∙ none))
]
  where
    is_none : (l : List Entry) (e : Entry) → e ∷ l ≡ [] → ⊥
    is_none l e is = absurd (cc is)

    own_test : entry.who ≡ who → (entry.who == who) ≡ true
    own_test own = grind (arith, nat_tests)

    other_test : (entry.who ≡ who → ⊥) → (entry.who == who) ≡ false
    other_test other = grind (arith, nat_tests)

-- a number that no entry has
unmade : (who : ℕ) (h : List Entry) → All (λ (entry : Entry). entry.who ≡ who → ⊥) h → made_by maker who h ≡ []
unmade who [] none = refl
unmade who (entry ∷ h) none =
    let other = All-head (λ (e : Entry). e.who ≡ who → ⊥) entry h none in
    ap (λ (b : Bool). if b then entry ∷ made_by maker who h else made_by maker who h) (other_test other) ∙ unmade who h (All-tail (λ (e : Entry). e.who ≡ who → ⊥) entry h none)
  where
    other_test : (entry.who ≡ who → ⊥) → (entry.who == who) ≡ false
    other_test other = grind (arith, nat_tests)

-- where each entry is by the root or by a joined pass, and the root made none, each is by a session
pub makers-all : (h : List Entry) (whos : List ℕ) (n : ℕ) → made_by maker 0 h ≡ [] → All (λ (who : ℕ). (1 ≤ who) × (who ≤ n)) whos → All (λ (entry : Entry). (entry.who ≡ 0) ⊎ Contains whos entry.who) h
    → All (λ (entry : Entry). (1 ≤ entry.who) × (entry.who ≤ n)) h
makers-all h whos n none within makers = λ k d below.
    elim (makers k d below) [
      | inl root ↦ absurd (none_made 0 h none k d below root)
      | inr joined ↦ All-contains (λ (who : ℕ). (1 ≤ who) × (who ≤ n)) whos _ within joined
    ]

-- a caller that gave its pins back in what it has seen has done so in a longer history in which it made no more entries
pub given_back-later : (who : ℕ) (h later : List Entry) → IsPrefix h later → made_by maker who h ≡ made_by maker who later → HasGivenBack h who → HasGivenBack later who
given_back-later who h later begins same back v =
    let entries = entries_by-later who h later begins same in
    rw entries (back v)

-- a caller without entries
given_back-none : (who : ℕ) (h : List Entry) → made_by maker who h ≡ [] → HasGivenBack h who
unfolding numbered
given_back-none who h none = given_back-later who [] h (prefix_nil h) (sym none) (λ v. refl)

-- where every session gave its pins back, every caller did
pub given_back-all : (h : List Entry) (n : ℕ) → All (λ (entry : Entry). (1 ≤ entry.who) × (entry.who ≤ n)) h → ((who : ℕ) → 1 ≤ who → who ≤ n → HasGivenBack h who) → IsGivenBack h
unfolding IsGivenBack
given_back-all h n makers each who v = caller who v
  where
    stranger : (who : ℕ) → ((1 ≤ who → who ≤ n → ⊥)) → HasGivenBack h who
    stranger who out = given_back-none who h (unmade who h (All-weaker (λ (entry : Entry). (1 ≤ entry.who) × (entry.who ≤ n)) (λ (entry : Entry). entry.who ≡ who → ⊥) (λ entry within same. out (subst (λ (m : ℕ). 1 ≤ m) same within.0) (subst (λ (m : ℕ). m ≤ n) same within.1)) h makers))

    caller : (who : ℕ) → HasGivenBack h who
    caller zero = stranger zero (λ some few. absurd (omega (arith, some)))
    caller (suc who) = elim (cases_lt n (suc who)) [
      | inl above ↦ stranger (suc who) (λ some few. absurd (omega (arith, above, few)))
      | inr within ↦ each (suc who) (omega arith) (omega (arith, within))
    ]
