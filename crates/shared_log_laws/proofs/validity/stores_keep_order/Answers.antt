use Rattle.shared_log_laws.proofs.StoreEvents.{offer_knew, reply_event, store_event}
use Rattle.shared_log_laws.proofs.validity.stores_keep_order.Goals as goal

pub returns-clause-puts : goal.returns-clause-puts
returns-clause-puts c = store_event

pub returns-clause-replies : goal.returns-clause-replies
returns-clause-replies c = reply_event

pub returns-clause-knew : goal.returns-clause-knew
returns-clause-knew c = offer_knew
