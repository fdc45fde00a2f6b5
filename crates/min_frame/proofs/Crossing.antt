-- Threads may share the words of a closed frame by `&`: what it lends are numbers.
use Rattle.std.specs.Prelude.{Bool, true, false, List, [], ◌∷◌}
use denote.Builtin.{RawPtr, u32, u64, unit, usize}
use denote.Param.Send.{IsSync, Common, whole-keyless, sendable}
use denote.RattleType.{RattleType}
use denote.RawPtr.{Ptr, block_ptr, null_ptr, block_of, count_of, ◌+ₚ◌}
use Rattle.std.specs.Slots.Ownership.{bytes_of, slot_lent, slots_lent}
use Rattle.std.proofs.Crossing as std
use Rattle.min_frame.specs.contracts.words.FrameWords.{the_row}

pointer : IsSync RawPtr
pointer = search sendable

number : IsSync usize
number = search sendable

count : IsSync u32
count = search sendable

word : IsSync u64
word = search sendable

none : IsSync unit
none = search sendable

module _ (R : RattleType) (y : IsSync R) where
  place_common : (f : Bool) (p : Ptr) (x : R.Denot) → Common (slot_lent R f p x)
  place_common true (block_ptr b n) x κ = (tt, y.shared x b n κ)
  place_common true null_ptr x κ = (tt, y.shared x (block_of null_ptr) (count_of null_ptr) κ)
  place_common false p x κ = tt

  places_common : (p : Ptr) (xs : List R.Denot) (fs : List Bool) → Common (slots_lent R p xs fs)
  places_common p [] fs κ = tt
  places_common p (x ∷ xs) [] κ = tt
  places_common p (x ∷ xs) (f ∷ fs) κ = (place_common f p x κ, places_common (p +ₚ bytes_of R) xs fs κ)

pub frame_words_sync : IsSync the_row
frame_words_sync = record {
  shared = λ d b o κ x. let c = x.0.closed in (
    (
      (
        (
          (
            (((pointer.shared c.words.ptr b _ κ, (number.shared c.words.len b _ κ, tt)), λ q. tt), (tt, places_common u64 word c.words.ptr c.words.items c.words.filled κ)),
            (
              (((pointer.shared c.slots.ptr b _ κ, (number.shared c.slots.len b _ κ, tt)), λ q. tt), (tt, places_common unit none c.slots.ptr c.slots.items c.slots.filled κ)),
              (
                λ q. whole-keyless _ _ (λ z vs. ((λ us. (tt, (tt, ((tt, tt), ((λ ws. (tt, tt)), tt))))), std.frees.frees _ _ _)) q _ b _,
                (
                  λ q. whole-keyless _ _ (λ z vs. ((λ us. (tt, (tt, ((tt, tt), ((λ ws. (tt, tt)), tt))))), std.frees.frees _ _ _)) q _ b _,
                  (std.sync.shared c.heap b _ κ, tt),
                ),
              ),
            ),
          ),
          λ q. tt,
        ),
        (count.shared x.0.pixels b _ κ, tt),
      ),
      λ q. tt,
    ),
    tt,
  );
}
