use Rattle.linker.proofs.Orders.{orders_agree}
use Rattle.linker.proofs.law.two_orders.Goals as goal

pub returns : goal.returns
returns g c = orders_agree
