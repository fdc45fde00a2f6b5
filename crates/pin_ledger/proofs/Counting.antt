-- Counts of pins where those of one version change.
use Rattle.std.proofs.Common.{◌≡◌, ◌≢◌, ℕ, ◌+◌, ◌-◌, ◌<◌, ◌≤◌, Bool, true, false, cond, eqb, nat_lt, List, [], ◌∷◌, ◌++◌, length, get_or, set, Option, Some, None, IsTrue, is_some, ◌↔◌, refl, sym, ap, ◌∙◌, arith, ◌⊎◌, inl, inr, if◌then◌else◌}
use Rattle.std.specs.List.{All, position, position_or_len, swap_remove}
use Rattle.std.proofs.lemmas.Bool.{true≢false, eqb-true, eq-eqb, ne_eqb, ltb-false}
use Rattle.std.proofs.lemmas.List.Elements.{All-get_or, All-from_get_or, All-nil, All-push, All-set, All-take}
use Rattle.std.proofs.lemmas.List.Sums.{sum_by_push, sum_by-set, sum_by-le, sum_by-swap_remove, get_or-le-sum_by, fails_before_first}
use Rattle.std.proofs.lemmas.List.{get_or_default}
use Rattle.std.proofs.lemmas.List.Quantifiers.{position-Some}
use Rattle.pin_ledger.specs.declared.pins.Pinned.{Pinned}
use Rattle.pin_ledger.specs.Ledger.{is_of, pins_of, EachHasPin}

-- what one version that is kept adds to the count of another
abbrev adds : ℕ → Pinned → ℕ
adds v at = cond (eqb at.version v) at.pins 0

adds_own : (v : ℕ) (at : Pinned) → at.version ≡ v → adds v at ≡ at.pins
adds_own v at own = rw (eq-eqb at.version v own) refl

adds_none : (v w : ℕ) (at : Pinned) → at.version ≡ v → w ≢ v → adds w at ≡ 0
adds_none v w at own other = rw (ne_eqb at.version w (λ same. other (sym same ∙ own))) refl

-- the counts are those from before but for one version
abbrev pub SameBut : ℕ → List Pinned → List Pinned → Type 0
SameBut v old new = (w : ℕ) → w ≢ v → pins_of new w ≡ pins_of old w

pub pins_of-nil : (v : ℕ) → pins_of [] v ≡ 0
unfolding pins_of
pins_of-nil v = refl

pub each-nil : EachHasPin []
unfolding EachHasPin
each-nil = All-nil (λ (at : Pinned). 0 < at.pins)

-- the place of a version
pub found : (pinned : List Pinned) (v i : ℕ) (d : Pinned) → position (is_of v) pinned ≡ Some i → (i < length pinned) × ((get_or pinned i d).version ≡ v)
found pinned v i d is =
    let at = position-Some (is_of v) pinned i d is in
    (at.0, eqb-true (get_or pinned i d).version v at.1)

-- a version without a place has no pins
pub pins_of-none : (pinned : List Pinned) (v : ℕ) → position (is_of v) pinned ≡ None → pins_of pinned v ≡ 0
unfolding pins_of
pins_of-none pinned v is =
    let past : length pinned ≤ position_or_len (is_of v) pinned = missed (nat_lt (position_or_len (is_of v) pinned) (length pinned)) refl is in
    let d : Pinned = record { version = 0; pins = 0 } in
    let each : All (λ (at : Pinned). adds v at ≤ 0) pinned = All-from_get_or (λ (at : Pinned). adds v at ≤ 0) pinned d
    (λ i inside. let other : eqb (get_or pinned i d).version v ≡ false = fails_before_first (is_of v) pinned i d (omega arith) in rw other (omega arith)) in
    omega (arith, sum_by-le (adds v) 0 pinned each)
  where
    missed : (b : Bool) → nat_lt (position_or_len (is_of v) pinned) (length pinned) ≡ b → cond b (Some (position_or_len (is_of v) pinned)) None ≡ None → length pinned ≤ position_or_len (is_of v) pinned
    missed true past none = absurd (cc none)
    missed false past none = ltb-false (position_or_len (is_of v) pinned) (length pinned) past

-- a version with a place has pins
pub pins_there : (pinned : List Pinned) (i : ℕ) (d : Pinned) → i < length pinned → EachHasPin pinned → 0 < (get_or pinned i d).pins
unfolding EachHasPin
pins_there pinned i d inside each = All-get_or (λ (at : Pinned). 0 < at.pins) pinned i d inside each

-- the pins of one version become others
pub pins_of-set : (pinned : List Pinned) (v i : ℕ) (d at : Pinned) → i < length pinned → (get_or pinned i d).version ≡ v → at.version ≡ v
    → (pins_of (set pinned i at) v + (get_or pinned i d).pins ≡ pins_of pinned v + at.pins) × SameBut v pinned (set pinned i at)
unfolding pins_of
pins_of-set pinned v i d at inside was is = (
  omega (arith, sum_by-set (adds v) pinned i at d inside, adds_own v (get_or pinned i d) was, adds_own v at is),
  λ w other. omega (arith, sum_by-set (adds w) pinned i at d inside, adds_none v w (get_or pinned i d) was other, adds_none v w at is other),
)

pub each-set : (pinned : List Pinned) (i : ℕ) (at : Pinned) → 0 < at.pins → EachHasPin pinned → EachHasPin (set pinned i at)
unfolding EachHasPin
each-set pinned i at some each = All-set (λ (at : Pinned). 0 < at.pins) pinned i at some each

-- one more version has pins
pub pins_of-push : (pinned : List Pinned) (v : ℕ) (at : Pinned) → at.version ≡ v → (pins_of (pinned ++ at ∷ []) v ≡ pins_of pinned v + at.pins) × SameBut v pinned (pinned ++ at ∷ [])
unfolding pins_of
pins_of-push pinned v at is = (
  omega (arith, sum_by_push (adds v) pinned at, adds_own v at is),
  λ w other. omega (arith, sum_by_push (adds w) pinned at, adds_none v w at is other),
)

pub each-push : (pinned : List Pinned) (at : Pinned) → 0 < at.pins → EachHasPin pinned → EachHasPin (pinned ++ at ∷ [])
unfolding EachHasPin
each-push pinned at some each = All-push (λ (at : Pinned). 0 < at.pins) pinned at each some

-- a version has no more pins
pub pins_of-swap_remove : (pinned : List Pinned) (v i : ℕ) (d : Pinned) → i < length pinned → (get_or pinned i d).version ≡ v
    → (pins_of (swap_remove pinned i d) v + (get_or pinned i d).pins ≡ pins_of pinned v) × SameBut v pinned (swap_remove pinned i d)
unfolding pins_of
pins_of-swap_remove pinned v i d inside was = (
  omega (arith, sum_by-swap_remove (adds v) pinned i d inside, adds_own v (get_or pinned i d) was),
  λ w other. omega (arith, sum_by-swap_remove (adds w) pinned i d inside, adds_none v w (get_or pinned i d) was other),
)

pub each-swap_remove : (pinned : List Pinned) (i : ℕ) (d : Pinned) → i < length pinned → EachHasPin pinned → EachHasPin (swap_remove pinned i d)
unfolding EachHasPin
each-swap_remove pinned i d inside each =
    let last = get_or pinned (length pinned - 1) d in
    All-take (λ (at : Pinned). 0 < at.pins) (length pinned - 1) (set pinned i last)
    (All-set (λ (at : Pinned). 0 < at.pins) pinned i last (All-get_or (λ (at : Pinned). 0 < at.pins) pinned (length pinned - 1) d (omega arith) each) each)

-- the pins of a version that is kept are not more than its count
pub pins_within : (pinned now : List Pinned) (v i : ℕ) (at : Pinned) → pinned ≡ now → position (is_of v) pinned ≡ Some i → at ≡ get_or pinned i at → at.pins ≤ pins_of now v
unfolding pins_of
pins_within pinned now v i at same is here =
    let spot = found pinned v i at is in
    let pins : at.pins ≡ (get_or pinned i at).pins = ap (λ (p : Pinned). p.pins) here in
    omega (arith, get_or-le-sum_by (adds v) pinned i at spot.0, adds_own v (get_or pinned i at) spot.1, ap (λ (l : List Pinned). pins_of l v) same, pins)

pub kept_positive : (pinned : List Pinned) (v i : ℕ) (at : Pinned) → EachHasPin pinned → position (is_of v) pinned ≡ Some i → at ≡ get_or pinned i at → 0 < at.pins
kept_positive pinned v i at each is here =
    let spot = found pinned v i at is in
    let pins : at.pins ≡ (get_or pinned i at).pins = ap (λ (p : Pinned). p.pins) here in
    omega (arith, pins_there pinned i at spot.0 each, pins)

-- two reads of one place
same_pins : (pinned : List Pinned) (v i : ℕ) (a b : Pinned) → position (is_of v) pinned ≡ Some i → a ≡ get_or pinned i a → b ≡ get_or pinned i b → a.pins ≡ b.pins
same_pins pinned v i a b is one other =
    let spot = found pinned v i a is in
    ap (λ (p : Pinned). p.pins) (one ∙ get_or_default pinned i a b spot.0 ∙ sym other)

pub one_left : (pinned : List Pinned) (v i : ℕ) (a b : Pinned) → position (is_of v) pinned ≡ Some i → a ≡ get_or pinned i a → b ≡ get_or pinned i b → a.pins ≡ 1 → b.pins ≡ 1
one_left pinned v i a b is one other last = sym (same_pins pinned v i a b is one other) ∙ last

pub more_left : (pinned : List Pinned) (v i : ℕ) (a b : Pinned) → EachHasPin pinned → position (is_of v) pinned ≡ Some i → a ≡ get_or pinned i a → b ≡ get_or pinned i b → (a.pins ≡ 1 → ⊥) → 0 < b.pins - 1
more_left pinned v i a b each is one other more =
    let same = same_pins pinned v i a b is one other in
    let some = kept_positive pinned v i b each is other in
    let not_one : b.pins ≡ 1 → ⊥ = λ last. more (same ∙ last) in
    omega (arith, some, not_one)

-- a version that is kept has other pins
pub counted_set : (pinned now : List Pinned) (v i n : ℕ) (at : Pinned) → pinned ≡ now → position (is_of v) pinned ≡ Some i → at ≡ get_or pinned i at
    → (pins_of (set pinned i (record { version = at.version; pins = n })) v + at.pins ≡ pins_of now v + n) × SameBut v now (set pinned i (record { version = at.version; pins = n }))
counted_set pinned now v i n at same is here =
    let spot = found pinned v i at is in
    let pins : at.pins ≡ (get_or pinned i at).pins = ap (λ (p : Pinned). p.pins) here in
    let version : at.version ≡ v = ap (λ (p : Pinned). p.version) here ∙ spot.1 in
    let after = pins_of-set pinned v i at (record { version = at.version; pins = n }) spot.0 spot.1 version in (
      omega (arith, after.0, pins, ap (λ (l : List Pinned). pins_of l v) same),
      λ w other. after.1 w other ∙ ap (λ (l : List Pinned). pins_of l w) same,
    )

-- its last pin goes
pub counted_swap_remove : (pinned now : List Pinned) (v i : ℕ) (at : Pinned) → pinned ≡ now → position (is_of v) pinned ≡ Some i → at ≡ get_or pinned i at
    → (pins_of (swap_remove pinned i at) v + at.pins ≡ pins_of now v) × SameBut v now (swap_remove pinned i at)
counted_swap_remove pinned now v i at same is here =
    let spot = found pinned v i at is in
    let pins : at.pins ≡ (get_or pinned i at).pins = ap (λ (p : Pinned). p.pins) here in
    let after = pins_of-swap_remove pinned v i at spot.0 spot.1 in (
      omega (arith, after.0, pins, ap (λ (l : List Pinned). pins_of l v) same),
      λ w other. after.1 w other ∙ ap (λ (l : List Pinned). pins_of l w) same,
    )

-- there is room for its first pin
pub room_left : (pinned now : List Pinned) (v spare len capacity : ℕ) → pinned ≡ now → position (is_of v) pinned ≡ None → capacity - len ≡ spare → (1 ≤ spare) ⊎ (0 < pins_of now v) → len < capacity
room_left pinned now v spare len capacity same is room either =
    let none = pins_of-none pinned v is in
    elim either [
      | inl some ↦ omega arith
      | inr has ↦ absurd (omega (arith, none, ap (λ (l : List Pinned). pins_of l v) same))
    ]

-- its first pin comes
pub counted_push : (pinned now after : List Pinned) (v : ℕ) (done : Bool) → pinned ≡ now → position (is_of v) pinned ≡ None → done ≡ true
    → after ≡ (if done then pinned ++ record { version = v; pins = 1 } ∷ [] else pinned) → (pins_of after v ≡ pins_of now v + 1) × SameBut v now after
counted_push pinned now after v done same is pushed new =
    let at : Pinned = record { version = v; pins = 1 } in
    let whole : after ≡ pinned ++ at ∷ [] = new ∙ ap (λ (b : Bool). if b then pinned ++ at ∷ [] else pinned) pushed in
    let one = pins_of-push pinned v at refl in (
      omega (arith, one.0, ap (λ (l : List Pinned). pins_of l v) whole, ap (λ (l : List Pinned). pins_of l v) same),
      λ w other. ap (λ (l : List Pinned). pins_of l w) whole ∙ one.1 w other ∙ ap (λ (l : List Pinned). pins_of l w) same,
    )

pub each_pushed : (pinned after : List Pinned) (v : ℕ) (done : Bool) → EachHasPin pinned → done ≡ true
    → after ≡ (if done then pinned ++ record { version = v; pins = 1 } ∷ [] else pinned) → EachHasPin after
each_pushed pinned after v done each pushed new =
    let at : Pinned = record { version = v; pins = 1 } in
    rw (new ∙ ap (λ (b : Bool). if b then pinned ++ at ∷ [] else pinned) pushed) (each-push pinned at (omega arith) each)

-- a version has a place exactly where it has pins
pub pinned_exactly : (pinned now : List Pinned) (v : ℕ) (o : Option ℕ) → pinned ≡ now → EachHasPin pinned → o ≡ position (is_of v) pinned → IsTrue (is_some o) ↔ (0 < pins_of now v)
pinned_exactly pinned now v None same each is =
    let none = pins_of-none pinned v (sym is) in
    ((λ is_some. absurd (true≢false (sym is_some))), (λ some. absurd (omega (arith, none, ap (λ (l : List Pinned). pins_of l v) same))))
pinned_exactly pinned now v (Some i) same each is =
    let d : Pinned = record { version = 0; pins = 0 } in
    let spot = found pinned v i d (sym is) in
    let at = get_or pinned i d in
    let here : at ≡ get_or pinned i at = get_or_default pinned i d at spot.0 in
    let some : 0 < pins_of now v = omega (arith, kept_positive pinned v i at each (sym is) here, pins_within pinned now v i at same (sym is) here) in
    ((λ is_some. some), (λ has. refl))
