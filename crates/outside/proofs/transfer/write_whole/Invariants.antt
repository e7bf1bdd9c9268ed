-- What is gone from the rest was got, and before the first call nothing has changed.
use Rattle.std.proofs.Common.{◌≡◌, ◌≤◌, length}
use Rattle.outside.proofs.Written.{Written}
use Rattle.outside.proofs.transfer.write_whole.Given as goal

abbrev pub invariant-pieces : goal.invariant-pieces
invariant-pieces g l = record {
  written : Written (g.K.Sink.got l.fn.sink) (g.K.Sink.got l.sink) l.fn.text l.rest;
  later : g.K.Sink.faults l.fn.sink ≤ g.K.Sink.faults l.sink;
  no_call : length l.rest ≡ length l.fn.text → l.sink ≡ l.fn.sink;
}

abbrev pub decreases-pieces : goal.decreases-pieces
decreases-pieces g l = length l.rest
