use Rattle.golay.proofs.Clauses.{as_by_search, distance_decides, keeps_messages}
use Rattle.golay.proofs.decode.Goals as goal

pub returns-clause-as_by_search : goal.returns-clause-as_by_search
returns-clause-as_by_search c = as_by_search _ _ _ _ c.decode_received.ensures

pub returns-clause-distance_decides : goal.returns-clause-distance_decides
returns-clause-distance_decides c = distance_decides _ _ _ _ c.decode_received.ensures

pub returns-clause-keeps_messages : goal.returns-clause-keeps_messages
returns-clause-keeps_messages c = keeps_messages _ _ _ _ c.decode_received.ensures
