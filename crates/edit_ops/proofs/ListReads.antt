-- The text of a class list, read again as its set.
use Rattle.std.proofs.Common.{◌≡◌, ℕ, ◌+◌, ◌<◌, ◌≤◌, ◌≢◌, Bool, true, false, ◌&&◌, eqb, Some, List, [], ◌∷◌, ◌++◌, length, get_or, map, refl, sym, ap, ◌∙◌, inl, inr, arith, decimal, length-append}
use Rattle.std.specs.Prelude.{codes}
use Rattle.std.specs.List.{All, join_with_byte}
use Rattle.std.specs.Str.{bytes_eq}
use Rattle.std.proofs.lemmas.Bool.{cases_Bool, ne_eqb, lt-ltb, le-leb}
use Rattle.std.proofs.lemmas.List.{get_or_append_left}
use Rattle.std.proofs.lemmas.List.Elements.{All-append}
use Rattle.std.proofs.lemmas.Fmt.{decimal_nonempty}
use Rattle.std.proofs.lemmas.Slice.Eq.{bytes_eq-Decides}
use Rattle.view_base.specs.Text.{is_blank}
use Rattle.view_meaning.specs.Classes.{has, all_classes}
use Rattle.class_bits.specs.ClassSet.{members, set_of}
use Rattle.class_bits.specs.Kept.{IsClassSet}
use Rattle.class_bits.specs.ClassSet.{is_comma, in_ranges, class_list}
use Rattle.class_bits.proofs.Items.{class_list-all, set_of-has}
use Rattle.edit_ops.specs.EditLine.{onto_run, runs, run_text, classes_text}
use Rattle.edit_ops.proofs.Joined.{AllClear, slice_split-joined}
use Rattle.edit_ops.proofs.ListText.{classes_text-all, classes_text-runs, members-from_0, after_comma, join-first}
use Rattle.edit_ops.proofs.NumberText.{digit_at, digit_clear, All-cons}
use Rattle.edit_ops.proofs.RunsText.{AreRanges, item_ranges-run_texts, runs-ranges, in_runs}

-- no digit passes, so no byte of a decimal number does
decimal-fails : (p : ℕ → Bool) → ((c : ℕ) → 48 ≤ c → c ≤ 57 → p c ≡ false) → (n : ℕ) → n ≤ 255 → All (λ c. p c ≡ false) (decimal n)
decimal-fails p digit n low k d inside = let here = digit_at n k d (omega arith) inside in digit _ here.0 here.1

-- nor of the text of a run, if a dash does not pass either
run_text-clear : (p : ℕ → Bool) → ((c : ℕ) → 48 ≤ c → c ≤ 57 → p c ≡ false) → p 45 ≡ false → (run : ℕ × ℕ) → run.0 ≤ 255 → run.1 ≤ 255 → All (λ c. p c ≡ false) (run_text run)
run_text-clear p digit dash run low high =
    elim (cases_Bool (eqb run.0 run.1)) as (λ _. All (λ c. p c ≡ false) (run_text run)) [
      | inl same ↦ rw same (decimal-fails p digit run.0 low)
      | inr apart ↦ rw apart (All-append (λ c. p c ≡ false) (decimal run.0) (45 ∷ decimal run.1) (decimal-fails p digit run.0 low) (All-cons p 45 (decimal run.1) dash (decimal-fails p digit run.1 high)))
    ]

-- a text begins with a digit
pub record IsDigitFirst (text : List ℕ) : Type 0 where
  pub some : 0 < length text
  pub least : 48 ≤ get_or text 0 0
  pub greatest : get_or text 0 0 ≤ 57

first_kept : (text more : List ℕ) → IsDigitFirst text → IsDigitFirst (text ++ more)
first_kept text more first =
    let same : get_or (text ++ more) 0 0 ≡ get_or text 0 0 = get_or_append_left text more 0 0 first.some in
    record {
      some = omega (arith, first.some, length-append text more);
      least = rw same first.least;
      greatest = rw same first.greatest;
    }

decimal-first : (n : ℕ) → n ≤ 255 → IsDigitFirst (decimal n)
decimal-first n low =
    let some = decimal_nonempty n (omega arith) in
    let digit = digit_at n 0 0 (omega arith) some in
    record { some = some; least = digit.0; greatest = digit.1 }

run_text-first : (run : ℕ × ℕ) → run.0 ≤ 255 → IsDigitFirst (run_text run)
run_text-first run low =
    elim (cases_Bool (eqb run.0 run.1)) as (λ _. IsDigitFirst (run_text run)) [
      | inl same ↦ rw same (decimal-first run.0 low)
      | inr apart ↦ rw apart (first_kept (decimal run.0) (45 ∷ decimal run.1) (decimal-first run.0 low))
    ]

not_all : (text : List ℕ) → get_or text 0 0 ≢ 97 → bytes_eq text (codes "all") ≡ false
not_all [] other = refl
not_all (c ∷ cs) other = rw (ne_eqb c 97 other) refl

run_texts-clear : (p : ℕ → Bool) → ((c : ℕ) → 48 ≤ c → c ≤ 57 → p c ≡ false) → p 45 ≡ false → (rs : List (ℕ × ℕ)) → AreRanges rs → AllClear p (map run_text rs)
run_texts-clear p digit dash [] are = tt
run_texts-clear p digit dash (run ∷ rs) are = (run_text-clear p digit dash run (omega arith) (omega arith), run_texts-clear p digit dash rs are.1)

list_first : (run : ℕ × ℕ) (rs : List (ℕ × ℕ)) → run.0 ≤ 255 → IsDigitFirst (join_with_byte 44 (map run_text (run ∷ rs)))
list_first run rs low = rw (join-first run rs) (first_kept (run_text run) (after_comma rs) (run_text-first run low))

class_list-runs : (rs : List (ℕ × ℕ)) → 0 < length rs → AreRanges rs → class_list (join_with_byte 44 (map run_text rs)) ≡ Some (set_of (in_ranges rs))
unfolding class_list
class_list-runs [] some are = absurd (omega arith)
class_list-runs (run ∷ rs) some are =
    let other = not_all (join_with_byte 44 (map run_text (run ∷ rs))) (λ e. omega (arith, (list_first run rs (omega (arith, are.0.0, are.0.1))).greatest)) in
    let cut = slice_split-joined is_comma 44 (run_text run) (map run_text rs) refl (run_texts-clear is_comma (λ c low high. ne_eqb c 44 (λ e. omega arith)) refl (run ∷ rs) are) in
    rw (other, cut, item_ranges-run_texts (run ∷ rs) are) refl

onto_run-some : (class : ℕ) (rs : List (ℕ × ℕ)) → 0 < length (onto_run class rs)
onto_run-some class [] = omega arith
onto_run-some class (run ∷ rs) =
    elim (cases_Bool (eqb run.0 (class + 1))) as (λ _. 0 < length (onto_run class (run ∷ rs))) [
      | inl next ↦ rw next (omega arith)
      | inr apart ↦ rw apart (omega arith)
    ]

runs-some : (cs : List ℕ) → 0 < length cs → 0 < length (runs cs)
runs-some [] some = absurd (omega arith)
runs-some (c ∷ cs) some = onto_run-some c (runs cs)

and_all : (b : Bool) → (b && true) ≡ b
and_all true = refl
and_all false = refl

-- the classes of a set lie in its runs, and no others
in_runs-members : (set : List ℕ) (c : ℕ) → c < 256 → in_ranges (runs (members set)) c ≡ has set c
unfolding members
in_runs-members set c below = in_runs set 256 0 c (omega arith) ∙ rw (lt-ltb c 256 below, le-leb 0 c (omega arith)) (and_all (has set c))

ranges-members : (set : List ℕ) → AreRanges (runs (members set))
unfolding members
ranges-members set = runs-ranges set 256 0 (omega arith)

pub class_list-classes_text : (set : List ℕ) → IsClassSet set → 0 < length (members set) → class_list (classes_text set) ≡ Some set
class_list-classes_text set is some =
    elim (cases_Bool (bytes_eq set all_classes)) [
      | inl all ↦ ap class_list (classes_text-all set all) ∙ class_list-all (codes "all") refl ∙ ap Some (sym ((bytes_eq-Decides set all_classes).0 all))
      | inr part ↦
          ap class_list (classes_text-runs set part ∙ ap (λ classes. join_with_byte 44 (map run_text (runs classes))) (members-from_0 set))
          ∙ class_list-runs (runs (members set)) (runs-some (members set) some) (ranges-members set)
          ∙ ap Some (sym (set_of-has set (in_ranges (runs (members set))) is (λ c below. sym (in_runs-members set c below))))
    ]

-- joined texts have no byte that passes where the texts and the separator have none
join-clear : (p : ℕ → Bool) (c : ℕ) → p c ≡ false → (texts : List (List ℕ)) → AllClear p texts → All (λ b. p b ≡ false) (join_with_byte c texts)
join-clear p c apart [] clear = λ k d inside. absurd (omega arith)
join-clear p c apart (text ∷ []) clear = clear.0
join-clear p c apart (text ∷ next ∷ others) clear =
    All-append (λ b. p b ≡ false) text (c ∷ join_with_byte c (next ∷ others)) clear.0 (All-cons p c (join_with_byte c (next ∷ others)) apart (join-clear p c apart (next ∷ others) clear.1))

all-clear : All (λ c. is_blank c ≡ false) (codes "all")
all-clear = All-cons is_blank 97 (108 ∷ 108 ∷ []) refl (All-cons is_blank 108 (108 ∷ []) refl (All-cons is_blank 108 [] refl (λ k d inside. absurd (omega arith))))

runs-text : (set : List ℕ) → bytes_eq set all_classes ≡ false → classes_text set ≡ join_with_byte 44 (map run_text (runs (members set)))
runs-text set part = classes_text-runs set part ∙ ap (λ classes. join_with_byte 44 (map run_text (runs classes))) (members-from_0 set)

-- the text of a class list is one word
pub classes_text-clear : (set : List ℕ) → All (λ c. is_blank c ≡ false) (classes_text set)
classes_text-clear set =
    elim (cases_Bool (bytes_eq set all_classes)) [
      | inl all ↦ rw (classes_text-all set all) all-clear
      | inr part ↦ rw (runs-text set part) (join-clear is_blank 44 refl (map run_text (runs (members set))) (run_texts-clear is_blank digit_clear refl (runs (members set)) (ranges-members set)))
    ]

joined-some : (rs : List (ℕ × ℕ)) → 0 < length rs → AreRanges rs → 0 < length (join_with_byte 44 (map run_text rs))
joined-some [] some are = absurd (omega arith)
joined-some (run ∷ rs) some are = (list_first run rs (omega (arith, are.0.0, are.0.1))).some

pub classes_text-some : (set : List ℕ) → 0 < length (members set) → 0 < length (classes_text set)
classes_text-some set some =
    elim (cases_Bool (bytes_eq set all_classes)) [
      | inl all ↦ rw (classes_text-all set all) (omega arith)
      | inr part ↦ rw (runs-text set part) (joined-some (runs (members set)) (runs-some (members set) some) (ranges-members set))
    ]
