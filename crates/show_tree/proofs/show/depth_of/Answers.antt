use Rattle.show_tree.proofs.Ends.{deepened}
use Rattle.show_tree.proofs.show.depth_of.Goals as goal

pub returns : goal.returns
returns c =
    deepened c.args.node c.args.end c.around-depth.result c.args.ends.now.items c.deref.result.now c.truncate.new.self.items _ c.deref.ensures.value
    c.around-depth.ensures.range c.around-depth.ensures.ended c.around-depth.ensures.last c.truncate.ensures.items c.in_ok-push.ensures.items
