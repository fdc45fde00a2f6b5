use Rattle.std.proofs.Common.{rules}
use Rattle.class_pages.proofs.Areas.{same_test}
use Rattle.class_pages.proofs.boxes.meet.Goals as goal

pub returns : goal.returns
returns c =
    let s = same_test c.args.a.min.x c.args.b.max.x (search rules) (search rules) in
    let t = same_test c.args.b.min.x c.args.a.max.x (search rules) (search rules) in
    let u = same_test c.args.a.min.y c.args.b.max.y (search rules) (search rules) in
    let v = same_test c.args.b.min.y c.args.a.max.y (search rules) (search rules) in
    let w = same_test c.args.a.min.z c.args.b.max.z (search rules) (search rules) in
    let x = same_test c.args.b.min.z c.args.a.max.z (search rules) (search rules) in
    cc (s, t, u, v, w, x)
