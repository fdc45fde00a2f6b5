use Rattle.std.proofs.Common.{arith, rules, refl, drop}
use Rattle.std.proofs.lemmas.Grind.{common_steps}
use Rattle.view_ends.proofs.Taken.{fronts}
use Rattle.view_ends.proofs.still_source.StillSourceSource.take.Goals as goal

pub returns-clause-takes : goal.returns-clause-takes
returns-clause-takes c = record {
  bytes = (_, refl, fronts c.args.self.now.bytes.items c.copy_from_slice.new.self (drop c.min-n.result c.args.buf.now) c.args.self.now.at c.min-n.result (search rules) (search rules));
  fits = grind (arith, common_steps);
  count = refl;
  end = grind (arith, common_steps);
  calm = refl;
  failed = tt;
  kept = tt;
  uncounted = tt;
  later = search rules;
}
