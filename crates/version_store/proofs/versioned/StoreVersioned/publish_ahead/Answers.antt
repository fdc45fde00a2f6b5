use Rattle.version_store.proofs.SharedSteps.{count_shown}
use Rattle.version_store.proofs.versioned.StoreVersioned.publish_ahead.Goals as goal

pub returns-clause-count : goal.returns-clause-count
returns-clause-count c =
    count_shown c.args.self.now c.publish.new.store c.args.who c.in_ok-version.count c.args.edit.now c.in_ok-version.ensures.published c.in_ok-version.ensures.count
