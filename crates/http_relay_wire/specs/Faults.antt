-- How a wire's failures are counted. Our own: each kind apart, so that an answer to a client can be tied to its cause.
use Rattle.std.specs.Prelude.{ℕ, ◌+◌, ◌-◌, ◌^◌, min, Result, Ok, Err}
use Rattle.http_relay_wire.specs.declared.fault.WireFault.{WireFault}
use Rattle.http_relay_wire.specs.declared.fault.WireFault.TheVariants.{Timeout, Broken}
use Rattle.http_relay_wire.specs.declared.fault.FaultCounts.{FaultCounts}

-- the counts of a wire that hasn't failed
abbrev pub no_faults : FaultCounts
no_faults = record { reads_timed_out = 0; reads_broken = 0; writes_timed_out = 0; writes_broken = 0 }

-- one more, up to 2^64 - 1
abbrev pub one_more : ℕ → ℕ
one_more count = min (count + 1) (2 ^ 64 - 1)

-- the counts after a read that failed so
abbrev pub after_read_fault : WireFault → FaultCounts → FaultCounts
after_read_fault Timeout counts = record counts { reads_timed_out = one_more counts.reads_timed_out }
after_read_fault Broken counts = record counts { reads_broken = one_more counts.reads_broken }

-- the counts after a write that failed so
abbrev pub after_write_fault : WireFault → FaultCounts → FaultCounts
after_write_fault Timeout counts = record counts { writes_timed_out = one_more counts.writes_timed_out }
after_write_fault Broken counts = record counts { writes_broken = one_more counts.writes_broken }

-- the counts after reads that ended so: an answer counts nothing, a failure one
abbrev pub after_read : {A : Type 0} → Result A WireFault → FaultCounts → FaultCounts
after_read (Ok answer) counts = counts
after_read (Err fault) counts = after_read_fault fault counts

-- the counts after writes that ended so
abbrev pub after_write : {A : Type 0} → Result A WireFault → FaultCounts → FaultCounts
after_write (Ok answer) counts = counts
after_write (Err fault) counts = after_write_fault fault counts
