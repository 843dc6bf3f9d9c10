use Rattle.std.proofs.Common.{inl, inr}
use Rattle.http_relay_body.proofs.Walks.{shortest_start, shortest_last, shortest_name, shortest_value, shortest_field}
use Rattle.http_relay_body.proofs.chunks.part.trailer.Place.shortest.Goals as goal

pub returns-in-Start-clause-shortest : goal.returns-in-Start-clause-shortest
returns-in-Start-clause-shortest c = elim c.in-Start.is [ inl e ↦ rw e shortest_start | inr e ↦ rw e shortest_last ]

pub returns-in-Name-clause-shortest : goal.returns-in-Name-clause-shortest
returns-in-Name-clause-shortest c = rw c.in-Name.is shortest_name

pub returns-in-Value-clause-shortest : goal.returns-in-Value-clause-shortest
returns-in-Value-clause-shortest c = elim c.in-Value.is [ inl e ↦ rw e shortest_value | inr e ↦ rw e shortest_field ]
