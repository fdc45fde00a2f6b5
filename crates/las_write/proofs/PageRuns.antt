-- Classes that follow one another on a page.
use Rattle.std.proofs.Common.{◌≡◌, ℕ, ◌+◌, ◌-◌, ◌*◌, ◌/◌, ◌%◌, ◌<◌, ◌≤◌, min, List, All, length, take, drop, subst, sym, ap, ◌∙◌, arith}
use Rattle.std.proofs.lemmas.List.{length-take, length-drop}
use Rattle.std.proofs.lemmas.List.Elements.{All-take, All-drop}
use Rattle.class_pages.proofs.Pages.{length-page_of, run_of_page}
use Rattle.class_pages.specs.Fitting.{EachFits}
use Rattle.class_pages.specs.Pages.{page_of}
use Rattle.view_meaning.specs.Classes.{top_class}

-- the page of a record has its class
pub page_reaches : (cs page : List ℕ) (first : ℕ) → page ≡ page_of cs (first / 4096) → first < length cs → first % 4096 < length page
page_reaches cs page first is inside =
    let long : length page ≡ min 4096 (length cs - first / 4096 * 4096) = ap length is ∙ length-page_of cs (first / 4096) in
    omega (arith, long, inside)

-- classes cut out of a page
pub record IsRun (cs run : List ℕ) (first : ℕ) : Type 0 where
  pub cut : run ≡ take (length run) (drop first cs)
  pub some : 1 ≤ length run
  pub within : first + length run ≤ length cs

pub run_on_page : (cs page : List ℕ) (first most count : ℕ) → page ≡ page_of cs (first / 4096) → first < length cs → 1 ≤ most → count ≡ min most (length page - first % 4096)
    → IsRun cs (take (first % 4096 + count - first % 4096) (drop (first % 4096) page)) first
run_on_page cs page first most count is inside some short =
    let at = first % 4096 in
    let long : length page ≡ min 4096 (length cs - first / 4096 * 4096) = ap length is ∙ length-page_of cs (first / 4096) in
    let here : at + count - at ≡ count = omega arith in
    let rest : length (drop at page) ≡ length page - at = length-drop at page in
    let size : length (take (at + count - at) (drop at page)) ≡ count = length-take (at + count - at) (drop at page) ∙ omega (arith, here, rest, short) in
    record {
      cut = ap (λ (n : ℕ). take n (drop at page)) here ∙ ap (λ (l : List ℕ). take count (drop at l)) is
          ∙ run_of_page cs (first / 4096) at count first (omega (arith, short, long, inside)) (omega arith) ∙ ap (λ (n : ℕ). take n (drop first cs)) (sym size);
      some = omega (arith, size, short, long, inside, some);
      within = omega (arith, size, short, long, inside);
    }

-- classes that a format has room for, some of them
pub fits-run : (format first : ℕ) (cs run : List ℕ) → run ≡ take (length run) (drop first cs) → EachFits format cs → EachFits format run
fits-run format first cs run is fits = subst (EachFits format) (sym is) (All-take (λ class. class ≤ top_class format) (length run) (drop first cs) (All-drop (λ class. class ≤ top_class format) first cs fits))
