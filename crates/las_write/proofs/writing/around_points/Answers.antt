use Rattle.std.proofs.Common.{◌≡◌, ℕ, ◌+◌, ◌-◌, ◌*◌, ◌≤◌, List, length, take, drop, arith, ap, ◌∙◌}
use Rattle.std.proofs.lemmas.List.{take_rest}
use Rattle.view_meaning.specs.Survey.{points_at, points_end, record_count, record_length}
use Rattle.las_write.proofs.Fitting.{HasPoints-fitting}
use Rattle.las_write.proofs.writing.around_points.Goals as goal

-- the bytes before a place, as the code cuts them
front : (b bytes : List ℕ) (start at : ℕ) → bytes ≡ b → start ≡ at → take start bytes ≡ take at b
front b bytes start at all begin = ap (λ (k : ℕ). take k bytes) begin ∙ ap (take at) all

-- the bytes from a place on, as the code cuts them
back : (b bytes : List ℕ) (end at : ℕ) → bytes ≡ b → end ≡ at → take (length bytes - end) (drop end bytes) ≡ drop at b
back b bytes end at all last = take_rest bytes end ∙ ap (λ (k : ℕ). drop k bytes) last ∙ ap (drop at) all

-- the points' end, from the header's fields
end_is : (b : List ℕ) (start records size : ℕ) → start ≡ points_at b → records ≡ record_count b → size ≡ record_length b → start + records * size ≡ points_end b
unfolding points_end
end_is b start records size begin count same =
    ap (λ (k : ℕ). k + records * size) begin ∙ ap (λ (k : ℕ). points_at b + k * size) count ∙ ap (λ (k : ℕ). points_at b + record_count b * k) same

-- the points' end is within the bytes, from the header's fields
end_within : (b bytes : List ℕ) (start records size : ℕ) → bytes ≡ b → start ≡ points_at b → records ≡ record_count b → size ≡ record_length b → points_end b ≤ length b → start + records * size ≤ length bytes
end_within b bytes start records size all begin count same within =
    let end : start + records * size ≡ points_end b = end_is b start records size begin count same in
    let long : length bytes ≡ length b = ap length all in
    omega (arith, end, long, within)

pub overflow_mul-end : goal.overflow_mul-end
overflow_mul-end c =
    let within = end_within c.args.survey.now _ _ _ _ c.bytes-bytes.ensures.bytes c.header-header.ensures.fields.points_at c.records.ensures.count (c.from.ensures ∙ c.header-header.ensures.fields.bytes_a_record) c.bytes-bytes.ensures.points in
    let long : length c.bytes-bytes.result.now ≡ length c.args.survey.now = ap length c.bytes-bytes.ensures.bytes in
    omega (arith, within, long, c.bytes-bytes.ensures.short)

pub overflow_add-end : goal.overflow_add-end
overflow_add-end c =
    let within = end_within c.args.survey.now _ _ _ _ c.bytes-bytes.ensures.bytes c.header-header.ensures.fields.points_at c.records.ensures.count (c.from.ensures ∙ c.header-header.ensures.fields.bytes_a_record) c.bytes-bytes.ensures.points in
    let long : length c.bytes-bytes.result.now ≡ length c.args.survey.now = ap length c.bytes-bytes.ensures.bytes in
    omega (arith, within, long, c.bytes-bytes.ensures.short)

pub slice_bounds-result-count : goal.slice_bounds-result-count
slice_bounds-result-count c = end_within c.args.survey.now _ _ _ _ c.bytes-bytes.ensures.bytes c.header-header.ensures.fields.points_at c.records.ensures.count (c.from.ensures ∙ c.header-header.ensures.fields.bytes_a_record) c.bytes-bytes.ensures.points

pub slice_bounds-result-start : goal.slice_bounds-result-start
slice_bounds-result-start c = end_within c.args.survey.now _ _ _ _ c.bytes-bytes.ensures.bytes c.header-header.ensures.fields.points_at c.records.ensures.count (c.from.ensures ∙ c.header-header.ensures.fields.bytes_a_record) c.bytes-bytes.ensures.points

pub returns-clause-before : goal.returns-clause-before
returns-clause-before c = front c.args.survey.now _ _ _ c.bytes-bytes.ensures.bytes c.header-header.ensures.fields.points_at

pub returns-clause-after : goal.returns-clause-after
returns-clause-after c =
    back c.args.survey.now _ _ _ c.bytes-bytes.ensures.bytes
    (end_is c.args.survey.now _ _ _ c.header-header.ensures.fields.points_at c.records.ensures.count (c.from.ensures ∙ c.header-header.ensures.fields.bytes_a_record))

pub returns-clause-there : goal.returns-clause-there
returns-clause-there c = HasPoints-fitting c.args.survey.now c.header-header.ensures.known c.header-header.ensures.fitting c.bytes-bytes.ensures.points (omega (arith, c.records.ensures.count, c.records.ensures.small))
