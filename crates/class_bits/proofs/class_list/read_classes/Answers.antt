use Rattle.std.proofs.Common.{◌≡◌, length, sym, ap, ◌∙◌, arith, rules, tests, Some, ℕ, List, false, codes}
use Rattle.std.specs.Str.{bytes_eq}
use Rattle.std.proofs.lemmas.List.{length_push}
use Rattle.std.specs.List.{slice_split}
use Rattle.std.proofs.lemmas.List.Splits.{length-slice_split}
use Rattle.std.proofs.lemmas.Iterator.Splits.{YieldsList-from_slice_split}
use Rattle.std.proofs.lemmas.Iterator.Consumers.{YieldsList-turn, YieldsList-end}
use Rattle.class_bits.specs.ClassSet.{is_comma}
use Rattle.class_bits.proofs.Items.{class_list-all, class_list-items, joined-stopped, joined-more, joined-all}
use Rattle.class_bits.proofs.Sets.{members-some, members-added}
use Rattle.class_bits.proofs.class_list.read_classes.Goals as goal

other_word : (word all : List ℕ) → all ≡ codes "all" → false ≡ bytes_eq word all → bytes_eq word (codes "all") ≡ false
other_word word all is other = rw is at (sym other)

pub returns-then-eq-clause-value : goal.returns-then-eq-clause-value
returns-then-eq-clause-value c = ap Some c.all.ensures.value ∙ sym (class_list-all c.args.word.now (rw c.as_slice.ensures at (sym c.if-eq.ensures)))

pub returns-in_err-first-clause-value : goal.returns-in_err-first-clause-value
returns-in_err-first-clause-value c =
    let word = c.args.word.now in
    let turn = YieldsList-turn (YieldsList-from_slice_split _ is_comma c.args.word.now (cc) (cc) (cc) (λ x b q k. search (rules, tests))) c.loop-item.yielded _ c.loop-item.yielded_by _ _ c.in-Some.item c.in-Some.is c.next.ensures.steps in
    let none = joined-stopped (slice_split is_comma word) (length c.loop-item.yielded) c.in-Some.item.now c.loop-item.classes turn.0 turn.1 (sym c.read_item.ensures.value ∙ c.in_err-first.was) in
    c.from_residual.ensures ∙ sym (class_list-items word (other_word word _ c.as_slice.ensures c.if-eq.ensures) ∙ sym c.loop-item.invariant.rest ∙ none)

pub loop-item-preserved : goal.loop-item-preserved
loop-item-preserved c =
    let word = c.args.word.now in
    let turn = YieldsList-turn (YieldsList-from_slice_split _ is_comma c.args.word.now (cc) (cc) (cc) (λ x b q k. search (rules, tests))) c.loop-item.yielded _ c.loop-item.yielded_by _ _ c.in-Some.item c.in-Some.is c.next.ensures.steps in
    record {
      words = c.add_range.ensures.words;
      some = λ _. members-added c.loop-item.classes c.add_range.new.self c.in_ok-first.first c.in_ok-first.last c.in_ok-first.ensures.rises (omega arith) c.add_range.ensures.added;
      rest =
          rw length_push
          (joined-more (slice_split is_comma word) (length c.loop-item.yielded) c.in_ok-first.first c.in_ok-first.last c.in-Some.item.now c.loop-item.classes c.add_range.new.self turn.0 turn.1 (sym c.read_item.ensures.value ∙ c.in_ok-first.was) c.add_range.ensures.words c.add_range.ensures.added
          ∙ c.loop-item.invariant.rest);
    }

pub returns-clause-value : goal.returns-clause-value
returns-clause-value c =
    let word = c.args.word.now in
    let all = YieldsList-end (YieldsList-from_slice_split _ is_comma word (cc) (cc) (cc) (λ x b q k. search (rules, tests))) c.loop-item.yielded _ c.loop-item.yielded_by _ _ c.in-None.is c.next.ensures.steps in
    sym (class_list-items word (other_word word _ c.as_slice.ensures c.if-eq.ensures) ∙ sym c.loop-item.invariant.rest ∙ joined-all (slice_split is_comma word) (length c.loop-item.yielded) c.loop-item.classes all.1)

pub returns-then-eq-clause-some : goal.returns-then-eq-clause-some
returns-then-eq-clause-some c = members-some c.all.result 0 (omega arith) (c.all.ensures.each 0 (omega arith))

pub returns-clause-some : goal.returns-clause-some
returns-clause-some c =
    let word = c.args.word.now in
    let all = YieldsList-end (YieldsList-from_slice_split _ is_comma word (cc) (cc) (cc) (λ x b q k. search (rules, tests))) c.loop-item.yielded _ c.loop-item.yielded_by _ _ c.in-None.is c.next.ensures.steps in
    c.loop-item.invariant.some (omega (arith, all.1, length-slice_split is_comma word))
