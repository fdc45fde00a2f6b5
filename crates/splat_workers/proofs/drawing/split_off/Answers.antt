use Rattle.std.proofs.Common.{◌≡◌, ◌+◌, ℕ, suc, List, [], ◌∷◌, ◌++◌, length, length-append, ap, subst, sym, ◌∙◌, arith, rules}
use Rattle.std.proofs.lemmas.Grind.{common_steps}
use Rattle.std.proofs.lemmas.List.{map-append}
use Rattle.std.specs.List.{range_with_len}
use Rattle.view_meaning.proofs.Nearest.{range_more}
use Rattle.splat_workers.specs.declared.worker.Worker.{Worker}
use Rattle.splat_workers.specs.Working.{AreNumbered}
use Rattle.splat_workers.proofs.drawing.split_off.Goals as goal

-- one more worker, whose number is how many there are with the first
numbered_more : (others : List Worker) (w : Worker) → AreNumbered others → length others + 1 ≡ w.number → AreNumbered (others ++ w ∷ [])
numbered_more others w are size =
    let one : suc (length others) ≡ length (others ++ w ∷ []) = omega (arith, length-append others (w ∷ [])) in
    map-append (λ (worker : Worker). worker.number) others (w ∷ []) ∙ ap (λ (l : List ℕ). l ++ w.number ∷ []) are
    ∙ sym (range_more 1 (length others) w.number (omega (arith, size)))
    ∙ ap (range_with_len 1) one

pub loop-number-preserved : goal.loop-number-preserved
loop-number-preserved c = record {
  root = search rules;
  ready = grind (arith, common_steps);
  numbers = subst AreNumbered (sym c.push_within.ensures.pushed) (numbered_more c.loop-number.others.items _ c.loop-number.invariant.numbers c.loop-number.invariant.size);
  size = grind (arith, common_steps);
  room = grind (arith, common_steps);
}
