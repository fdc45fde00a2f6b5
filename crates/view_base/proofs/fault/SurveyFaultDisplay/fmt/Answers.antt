use Rattle.std.proofs.Common.{◌≡◌, List, ℕ, ◌++◌, ap, ◌∙◌, append_assoc}
use Rattle.std.specs.Prelude.{codes, decimal}
use Rattle.view_base.specs.FaultText.{text_of}
use Rattle.view_base.proofs.fault.SurveyFaultDisplay.fmt.Goals as goal

regrouped : (a b c d : List ℕ) → a ++ b ++ c ++ d ≡ a ++ (b ++ (c ++ d))
regrouped a b c d = append_assoc (a ++ b) c d ∙ append_assoc a b (c ++ d)

pub returns-in-Points-clause-writes : goal.returns-in-Points-clause-writes
returns-in-Points-clause-writes g c =
    let text : text_of c.args.self.now ≡ codes "points need " ++ (decimal c.in-Points.need ++ (codes " bytes, file has " ++ decimal c.in-Points.have)) =
    ap text_of c.in-Points.is ∙ regrouped (codes "points need ") (decimal c.in-Points.need) (codes " bytes, file has ") (decimal c.in-Points.have) in
    rw text c.write-in-Points.ensures.writes
