use Rattle.std.proofs.Common.{◌≡◌, ℕ, ◌+◌, ◌*◌, ◌≤◌, List, length, arith, ap, ◌∙◌}
use Rattle.view_meaning.specs.Survey.{points_at, points_end, record_count, record_length}
use Rattle.las_write.proofs.Runs.{run_within, read_records-copied}
use Rattle.las_write.proofs.records.copy_records.Goals as goal

pub overflow_mul-at : goal.overflow_mul-at
overflow_mul-at c =
    let size : c.args.first * c.from.result ≡ c.args.first * record_length c.args.survey.now = ap (λ (k : ℕ). c.args.first * k) (c.from.ensures ∙ c.header-header.ensures.fields.bytes_a_record) in
    omega (arith, size, c.bytes-bytes.ensures.short, run_within c.args.survey.now c.args.first (length c.args.classes.now) c.requires.there.whole c.requires.within)

pub overflow_add-at : goal.overflow_add-at
overflow_add-at c =
    let size : c.args.first * c.from.result ≡ c.args.first * record_length c.args.survey.now = ap (λ (k : ℕ). c.args.first * k) (c.from.ensures ∙ c.header-header.ensures.fields.bytes_a_record) in
    omega (arith, size, c.header-header.ensures.fields.points_at, c.bytes-bytes.ensures.short, run_within c.args.survey.now c.args.first (length c.args.classes.now) c.requires.there.whole c.requires.within)

-- a run of records is within the bytes, from the header's fields
run_inside : (b bytes : List ℕ) (start first size count long : ℕ) → bytes ≡ b → start ≡ points_at b → size ≡ record_length b → long ≡ count * record_length b → points_end b ≤ length b → first + count ≤ record_count b
    → start + first * size + long ≤ length bytes
run_inside b bytes start first size count long all begin same run whole within =
    let from : first * size ≡ first * record_length b = ap (λ (k : ℕ). first * k) same in
    let size : length bytes ≡ length b = ap length all in
    omega (arith, from, size, begin, run, run_within b first count whole within)

pub overflow_add-at-2 : goal.overflow_add-at-2
overflow_add-at-2 c =
    let inside = run_inside c.args.survey.now _ _ c.args.first _ (length c.args.classes.now) _ c.bytes-bytes.ensures.bytes c.header-header.ensures.fields.points_at (c.from.ensures ∙ c.header-header.ensures.fields.bytes_a_record) c.requires.size c.requires.there.whole c.requires.within in
    let all : length c.bytes-bytes.result.now ≡ length c.args.survey.now = ap length c.bytes-bytes.ensures.bytes in
    omega (arith, inside, all, c.bytes-bytes.ensures.short)

pub slice_bounds-copy_from_slice-end : goal.slice_bounds-copy_from_slice-end
slice_bounds-copy_from_slice-end c = run_inside c.args.survey.now _ _ c.args.first _ (length c.args.classes.now) _ c.bytes-bytes.ensures.bytes c.header-header.ensures.fields.points_at (c.from.ensures ∙ c.header-header.ensures.fields.bytes_a_record) c.requires.size c.requires.there.whole c.requires.within

pub set_classes-requires-clause-read : goal.set_classes-requires-clause-read
set_classes-requires-clause-read c =
    c.copy_from_slice.ensures.after
    ∙ read_records-copied c.args.survey.now _ _ c.args.first _ (length c.args.classes.now) _ c.bytes-bytes.ensures.bytes c.header-header.ensures.fields.points_at (c.from.ensures ∙ c.header-header.ensures.fields.bytes_a_record) c.requires.size
