-- A `draw`, by what its words ask for.
use Rattle.std.proofs.Common.{◌≡◌, ℕ, true, false, Bool, cond, Option, Some, None, List, [], ◌∷◌, Ok, Err, refl, sym, ◌∙◌, ap, subst}
use Rattle.std.specs.Prelude.{Result}
use Rattle.view_base.specs.Fitting.{word_at}
use Rattle.view_ends.specs.Desk.{Said, Untouched}
use Rattle.view_meaning.specs.Picture.{View, can_colour, picture}
use Rattle.view_meaning.specs.Survey.{format_of}
use Rattle.int_camera.specs.declared.numbers.CameraLimit.{CameraLimit}
use Rattle.view_text.specs.declared.fault.TextFault.{TextFault}
use Rattle.view_text.specs.declared.fault.TextFault.TheVariants as fault
use Rattle.view_words.specs.declared.row.Row.TheVariants.{Draw}
use Rattle.view_words.specs.CommandLine.{badword, IsLine, draw_of}
use Rattle.view_words.proofs.ViewPart.{draw_of-each}
use Rattle.view_meaning.specs.Classes.{classes}
use Rattle.view_commands.specs.Calls.{AnswersDraw}
use Rattle.view_commands.specs.Texts.{DrawsView, MakesText, colour_refusal}
use Rattle.view_commands.specs.declared.status.Status as status
use Rattle.view_commands.specs.declared.status.Status.TheVariants.{Words, Limit, NoColour}

-- a view whose colours a survey's format has
pub colour_refusal-has : (b : List ℕ) (view : View) (format : ℕ) (can : Bool) → format ≡ format_of b → can ≡ can_colour format view.colouring → can ≡ true → colour_refusal view b ≡ None
colour_refusal-has b view format can is told has = rw (sym (sym has ∙ told ∙ ap (λ (f : ℕ). can_colour f view.colouring) is)) refl

-- a view whose colours it has not
pub colour_refusal-lacks : (b : List ℕ) (view : View) (format : ℕ) (can : Bool) → format ≡ format_of b → can ≡ can_colour format view.colouring → can ≡ false → colour_refusal view b ≡ Some (NoColour format)
colour_refusal-lacks b view format can is told lacks = rw (sym (sym lacks ∙ told ∙ ap (λ (f : ℕ). can_colour f view.colouring) is)) (ap (λ (f : ℕ). Some (NoColour f)) (sym is))

no_misfit : (o : Option ℕ) (at : ℕ) → o ≡ None → o ≡ Some at → ⊥
no_misfit o at none is = absurd (cc (none, is))

-- the view that was asked for was drawn
pub answers-view : (tells : Bool) (old new : Said) (ws : List (List ℕ)) (view : View) (ended : status.Status) → draw_of ws ≡ Ok view
    → MakesText tells old new (word_at ws 1) (word_at ws 2) (colour_refusal view) (λ (b : List ℕ). picture b (classes b []) view) ended → AnswersDraw tells old new ws ended
answers-view tells old new ws view ended asked made =
    let line = (draw_of-each ws).1 (Ok view) asked refl in
    record {
      refused = λ at bad. absurd (no_misfit (badword (Draw ∷ []) ws) at line.0 bad);
      line = λ fits. subst (λ (r : Result View TextFault). DrawsView tells old new ws r ended) line.1 made;
    }

-- a word is refused
pub answers-words : (tells : Bool) (old new : Said) (ws : List (List ℕ)) (at : ℕ) (ended : status.Status) → draw_of ws ≡ Err (fault.Line at) → ended ≡ Words at → Untouched old new → AnswersDraw tells old new ws ended
answers-words tells old new ws at ended asked is untouched =
    let bad = (draw_of-each ws).0 at asked in
    record {
      refused = λ other also. (is ∙ ap Words (one (badword (Draw ∷ []) ws) at other bad also), untouched);
      line = λ fits. absurd (no_misfit (badword (Draw ∷ []) ws) at fits bad);
    }
  where
    one : (o : Option ℕ) (at other : ℕ) → o ≡ Some at → o ≡ Some other → at ≡ other
    one o at other is also = cc (is, also)

-- a camera number is out of its range
pub answers-limit : (tells : Bool) (old new : Said) (ws : List (List ℕ)) (limit : CameraLimit) (ended : status.Status) → draw_of ws ≡ Err (fault.Limit limit) → ended ≡ Limit limit → Untouched old new → AnswersDraw tells old new ws ended
answers-limit tells old new ws limit ended asked is untouched =
    let line = (draw_of-each ws).1 (Err (fault.Limit limit)) asked refl in
    record {
      refused = λ at bad. absurd (no_misfit (badword (Draw ∷ []) ws) at line.0 bad);
      line = λ fits. subst (λ (r : Result View TextFault). DrawsView tells old new ws r ended) line.1 (is, untouched);
    }
