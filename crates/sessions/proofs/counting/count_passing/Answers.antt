use Rattle.std.proofs.Common.{◌≡◌, ◌∙◌, ℕ, List, ap}
use Rattle.std.specs.List.{count_by, range_with_len}
use Rattle.view_meaning.specs.Survey.{record_count}
use Rattle.view_meaning.specs.Classes.{Filter, passes, passing}
use Rattle.sessions.proofs.counting.count_passing.Goals as goal

counted_all : (b cs : List ℕ) (filter table : Filter) (n count : ℕ) → table ≡ filter → n ≡ record_count b → count ≡ count_by (passes b cs table) (range_with_len 0 n) → count ≡ passing b cs filter
unfolding passing
counted_all b cs filter table n count is all counted =
    counted ∙ ap (λ (f : Filter). count_by (passes b cs f) (range_with_len 0 n)) is ∙ ap (λ (k : ℕ). count_by (passes b cs filter) (range_with_len 0 k)) all

pub returns : goal.returns
returns g c = counted_all c.args.survey.now c.args.classes.now c.args.filter.now c.of-table.result c.records.result c.count_side_by_side.result c.of-table.ensures c.records.ensures.count c.count_side_by_side.ensures.counted
