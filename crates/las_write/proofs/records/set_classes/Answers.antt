use Rattle.std.proofs.Common.{◌≡◌, ℕ, ◌+◌, ◌*◌, List, length, get_or, slice_set, take, drop, arith, ap, ◌∙◌}
use Rattle.std.proofs.lemmas.List.{length-set, get_or-take, get_or-drop}
use Rattle.view_meaning.specs.Classes.{with_class}
use Rattle.view_meaning.specs.Survey.{format_of, record_length, class_place}
use Rattle.las_write.proofs.Runs.{half_saved, half_saved-more, place_within}
use Rattle.las_write.proofs.records.set_classes.Goals as goal

pub loop-k-preserved : goal.loop-k-preserved
loop-k-preserved c =
    let b : List ℕ = c.args.survey.now in
    let cs : List ℕ = c.args.classes.now in
    let k = c.loop-k.k in
    let format : c.header-header.result.now.format ≡ format_of b = c.header-header.ensures.fields.format in
    let size : c.from-size.result ≡ record_length b = c.from-size.ensures ∙ c.header-header.ensures.fields.bytes_a_record in
    let place : c.class_place-place.result ≡ class_place (format_of b) = c.class_place-place.ensures ∙ ap class_place format in
    let at : k * c.from-size.result + c.class_place-place.result ≡ k * record_length b + class_place (format_of b) =
    ap (λ (n : ℕ). k * n + c.class_place-place.result) size ∙ ap (λ (n : ℕ). k * record_length b + n) place in
    let byte = k * c.from-size.result + c.class_place-place.result in
    record {
      size = length-set c.loop-k.piece byte c.with_class.result ∙ c.loop-k.invariant.size;
      half = λ all is.
          let read : get_or cs k 0 ≡ get_or all (c.args.first + k) 0 =
          ap (λ (l : List ℕ). get_or l k 0) is ∙ get_or-take (length cs) (drop c.args.first all) k 0 c.loop-k-test.true ∙ get_or-drop c.args.first all k 0 in
          let class : c.with_class.result ≡ with_class (format_of b) (get_or (half_saved b all c.args.first (length cs) k) byte 0) (get_or all (c.args.first + k) 0) =
          c.with_class.ensures.byte ∙ ap (λ (n : ℕ). with_class n (get_or c.loop-k.piece byte 0) (get_or cs k 0)) format
          ∙ ap (λ (l : List ℕ). with_class (format_of b) (get_or l byte 0) (get_or cs k 0)) (c.loop-k.invariant.half all is)
          ∙ ap (λ (n : ℕ). with_class (format_of b) (get_or (half_saved b all c.args.first (length cs) k) byte 0) n) read in
          ap (λ (l : List ℕ). slice_set l byte c.with_class.result) (c.loop-k.invariant.half all is)
          ∙ half_saved-more b all c.args.first (length cs) k (k + 1) byte c.with_class.result c.requires.there.whole (place_within (format_of b) (record_length b) c.requires.there.least) c.requires.within c.loop-k-test.true (omega arith) at class;
    }
