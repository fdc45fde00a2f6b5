use Rattle.std.proofs.Common.{ℕ, ◌/◌, ◌%◌, ◌^◌, ◌∙◌, ap}
use Rattle.survey_make.specs.Made.{state, draw}
use Rattle.survey_make.proofs.Drawing.{next}
use Rattle.survey_make.proofs.making.drawn.Goals as goal

abbrev upper : ℕ → ℕ
upper u = next u / 2 ^ 32

pub returns-clause-state : goal.returns-clause-state
unfolding state
returns-clause-state c = c.draw-5.ensures.state ∙ ap next (c.draw-4.ensures.state ∙ ap next (c.draw-3.ensures.state ∙ ap next (c.draw-2.ensures.state ∙ ap next c.draw.ensures.state)))

pub returns-clause-x : goal.returns-clause-x
unfolding state draw
returns-clause-x c = ap (λ (n : ℕ). n % 65536) c.draw.ensures.drawn

pub returns-clause-y : goal.returns-clause-y
unfolding state draw
returns-clause-y c = ap (λ (n : ℕ). n % 65536) (c.draw-2.ensures.drawn ∙ ap upper c.draw.ensures.state)

pub returns-clause-z : goal.returns-clause-z
unfolding state draw
returns-clause-z c = ap (λ (n : ℕ). n % 4096) (c.draw-3.ensures.drawn ∙ ap upper (c.draw-2.ensures.state ∙ ap next c.draw.ensures.state))

pub returns-clause-intensity : goal.returns-clause-intensity
unfolding state draw
returns-clause-intensity c = ap (λ (n : ℕ). n % 65536) (c.draw-4.ensures.drawn ∙ ap upper (c.draw-3.ensures.state ∙ ap next (c.draw-2.ensures.state ∙ ap next c.draw.ensures.state)))

pub returns-clause-class : goal.returns-clause-class
unfolding state draw
returns-clause-class c = ap (λ (n : ℕ). n % 32) (c.draw-5.ensures.drawn ∙ ap upper (c.draw-4.ensures.state ∙ ap next (c.draw-3.ensures.state ∙ ap next (c.draw-2.ensures.state ∙ ap next c.draw.ensures.state))))
