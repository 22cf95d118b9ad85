use Rattle.book_model.proofs.OrderLemmas.{order_is_free}
use Rattle.book_model.proofs.laws.order_is_free.Goals as goal

pub returns : goal.returns
returns c = order_is_free
