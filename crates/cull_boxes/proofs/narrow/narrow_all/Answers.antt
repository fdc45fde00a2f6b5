use Rattle.std.proofs.Common.{◌≡◌, List, [], ◌∷◌, length, get_or, arith, rules}
use Rattle.int_camera.specs.declared.half_space.HalfSpace.{HalfSpace}
use Rattle.cull_boxes.proofs.narrow.narrow_all.Goals as goal

six : (hs : List HalfSpace) (none a b c d e f : HalfSpace) → length hs ≡ 6 → a ≡ get_or hs 0 none → b ≡ get_or hs 1 none → c ≡ get_or hs 2 none → d ≡ get_or hs 3 none → e ≡ get_or hs 4 none → f ≡ get_or hs 5 none → (a ∷ b ∷ c ∷ d ∷ e ∷ f ∷ []) ≡ hs
six [] none a b c d e f long is_a is_b is_c is_d is_e is_f = absurd (omega (arith, long))
six (h0 ∷ []) none a b c d e f long is_a is_b is_c is_d is_e is_f = absurd (omega (arith, long))
six (h0 ∷ h1 ∷ []) none a b c d e f long is_a is_b is_c is_d is_e is_f = absurd (omega (arith, long))
six (h0 ∷ h1 ∷ h2 ∷ []) none a b c d e f long is_a is_b is_c is_d is_e is_f = absurd (omega (arith, long))
six (h0 ∷ h1 ∷ h2 ∷ h3 ∷ []) none a b c d e f long is_a is_b is_c is_d is_e is_f = absurd (omega (arith, long))
six (h0 ∷ h1 ∷ h2 ∷ h3 ∷ h4 ∷ []) none a b c d e f long is_a is_b is_c is_d is_e is_f = absurd (omega (arith, long))
six (h0 ∷ h1 ∷ h2 ∷ h3 ∷ h4 ∷ h5 ∷ []) none a b c d e f long is_a is_b is_c is_d is_e is_f = cc
six (h0 ∷ h1 ∷ h2 ∷ h3 ∷ h4 ∷ h5 ∷ h6 ∷ hs) none a b c d e f long is_a is_b is_c is_d is_e is_f = absurd (omega (arith, long))

pub returns : goal.returns
returns c =
    let long : length c.args.spaces.now ≡ 6 = search rules in
    six c.args.spaces.now _ _ _ _ _ _ _ long c.in_ok-narrow.ensures c.in_ok-narrow-2.ensures c.in_ok-narrow-3.ensures c.in_ok-narrow-4.ensures c.in_ok-narrow-5.ensures c.in_ok-narrow-6.ensures
