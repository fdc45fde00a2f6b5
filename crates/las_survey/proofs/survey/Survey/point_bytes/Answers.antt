use Rattle.std.proofs.Common.{◌≡◌, ◌+◌, ◌-◌, ◌*◌, ◌≤◌, ℕ, take, drop, arith, List, ◌∙◌, ap, length, rules}
use Rattle.view_meaning.specs.Survey.{record_at, record_length, points_at}
use Rattle.las_survey.proofs.Kept.{kept-sound}
use Rattle.las_survey.proofs.Laid.{long_records, record-within}
use Rattle.las_survey.proofs.survey.Survey.point_bytes.Goals as goal

part_is : (a i s at size : ℕ) (xs b : List ℕ) → a + i * s ≡ at → s ≡ size → xs ≡ b → take (a + i * s + s - (a + i * s)) (drop (a + i * s) xs) ≡ take size (drop at b)
part_is a i s at size xs b here same all =
    let n : a + i * s + s - (a + i * s) ≡ s = omega arith in
    ap (λ (k : ℕ). take k (drop (a + i * s) xs)) (n ∙ same) ∙ ap (λ (k : ℕ). take size (drop k xs)) here ∙ ap (λ (l : List ℕ). take size (drop at l)) all

pub slice_bounds-result-end : goal.slice_bounds-result-end
unfolding record_at
slice_bounds-result-end c =
    let b : List ℕ = c.args.self.now in
    let same : c.self.inside.bytes.items ≡ b = c.self.view_is in
    let size : c.from-size.result ≡ record_length b = c.from-size.ensures ∙ c.self.invariant.fields.bytes_a_record ∙ ap record_length same in
    let first : c.self.inside.header.points_at ≡ points_at b = c.self.invariant.fields.points_at ∙ ap points_at same in
    let product : c.args.i * c.from-size.result ≡ c.args.i * record_length b = ap (λ (k : ℕ). c.args.i * k) size in
    let inside : points_at b + c.args.i * record_length b + record_length b ≤ length b = record-within b c.args.i (kept-sound _ _ _ _ _ c.self.invariant same) c.requires in
    let all : length c.as_slice.result.now ≡ length b = ap length (c.as_slice.ensures ∙ same) in
    let within : c.self.inside.header.points_at + c.args.i * c.from-size.result + c.from-size.result ≤ length c.as_slice.result.now = omega arith in
    search rules

pub returns-clause-bytes : goal.returns-clause-bytes
unfolding record_at
returns-clause-bytes c =
    let b : List ℕ = c.args.self.now in
    let same_bytes : c.self.inside.bytes.items ≡ b = c.self.view_is in
    let size : c.from-size.result ≡ record_length b = c.from-size.ensures ∙ c.self.invariant.fields.bytes_a_record ∙ ap record_length same_bytes in
    let first : c.self.inside.header.points_at ≡ points_at b = c.self.invariant.fields.points_at ∙ ap points_at same_bytes in
    let here : c.self.inside.header.points_at + c.args.i * c.from-size.result ≡ points_at b + c.args.i * record_length b =
    ap (λ (k : ℕ). k + c.args.i * c.from-size.result) first ∙ ap (λ (k : ℕ). points_at b + c.args.i * k) size in
    part_is c.self.inside.header.points_at c.args.i c.from-size.result _ _ _ _ here size (c.as_slice.ensures ∙ same_bytes)

pub returns-clause-least : goal.returns-clause-least
returns-clause-least c = long_records _ (kept-sound _ _ _ _ _ c.self.invariant c.self.view_is)

pub returns-clause-fitting : goal.returns-clause-fitting
returns-clause-fitting c = (kept-sound _ _ _ _ _ c.self.invariant c.self.view_is).fitting
