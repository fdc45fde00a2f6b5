use Rattle.version_store.proofs.SharedSteps.{made_after, none_after}
use Rattle.version_store.proofs.over.SharedOver.publish.Goals as goal

pub returns-clause-made : goal.returns-clause-made
returns-clause-made g c =
    made_after c.publish_ahead.result (λ who made. g.V.Versioned.published who c.args.edit.now made.2) c.args.pass.now c.newest.new.pass c.publish_ahead.new.pass
    c.newest.ensures.none c.publish_ahead.ensures.made

pub returns-clause-refused : goal.returns-clause-refused
returns-clause-refused g c =
    none_after c.publish_ahead.result c.args.pass.now c.newest.new.pass c.publish_ahead.new.pass c.newest.ensures.none c.publish_ahead.ensures.refused
