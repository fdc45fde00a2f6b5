use Rattle.std.proofs.Common.{◌≡◌, ◌+◌, ◌<◌, ◌≤◌, ◌++◌, ◌∷◌, [], List, map, refl, sym, subst, arith}
use Rattle.std.specs.List.{range_with_len}
use Rattle.std.proofs.lemmas.List.Elements.{All-push, All-same}
use Rattle.view_meaning.specs.Survey.{point_of, record_count}
use Rattle.grid_blocks.specs.declared.block.Block.{Block}
use Rattle.grid_blocks.specs.Blocks.{Follow}
use Rattle.grid_blocks.specs.LeastBox.{IsLeastBox}
use Rattle.grid_blocks.proofs.Cutting.{follow_more}
use Rattle.grid_blocks.proofs.by_number.cut.Goals as goal

pub loop-first-preserved : goal.loop-first-preserved
loop-first-preserved c =
    let old = c.loop-first.list.items in
    let block : Block = record { first = c.loop-first.first; count = c.min-count.result; area = c.box_of_records.result } in
    let is : c.push.new.self.items ≡ old ++ block ∷ [] = c.in_ok-push.ensures.pushed in
    let within : c.loop-first.first + c.min-count.result ≤ record_count c.args.survey.now = omega (arith, c.min-count.ensures, c.records-in-loop-first.ensures.count, c.records.ensures.count, c.loop-first-test.true) in
    record {
      within = within;
      follow = subst (λ (l : List Block). Follow 0 l (c.loop-first.first + c.min-count.result)) (sym is) (follow_more 0 old c.loop-first.first _ block c.loop-first.invariant.follow refl refl);
      sizes = All-same (λ block. (1 ≤ block.count) × (block.count ≤ 1024)) _ _ is
          (All-push (λ block. (1 ≤ block.count) × (block.count ≤ 1024)) old block c.loop-first.invariant.sizes
          (omega (arith, c.min-count.ensures, c.records-in-loop-first.ensures.count, c.records.ensures.count, c.loop-first-test.true), omega (arith, c.min-count.ensures)));
      areas = All-same (λ block. IsLeastBox (map (point_of c.args.survey.now) (range_with_len block.first block.count)) block.area) _ _ is
          (All-push (λ block. IsLeastBox (map (point_of c.args.survey.now) (range_with_len block.first block.count)) block.area) old block c.loop-first.invariant.areas c.box_of_records.ensures);
      full = All-same (λ block. block.count < 1024 → block.first + block.count ≡ record_count c.args.survey.now) _ _ is
          (All-push (λ block. block.count < 1024 → block.first + block.count ≡ record_count c.args.survey.now) old block c.loop-first.invariant.full
          (λ few. omega (arith, few, c.min-count.ensures, c.records-in-loop-first.ensures.count, c.records.ensures.count, c.loop-first-test.true)));
    }
