-- The look-up finds what each entry of the key holds, so what the first one does.
use Rattle.std.specs.Prelude.{◌++◌}
use Rattle.shared_words.specs.Processes.{held_by_view}
use Rattle.anchors.specs.Holds.{view_of}
use Rattle.word_view.proofs.Keys.{found_listed, found_value}
use Rattle.word_view.proofs.terms.held_under.Goals as goal

pub lookup-requires-clause-awake : goal.lookup-requires-clause-awake
lookup-requires-clause-awake g c = c.requires.reading.awake

pub lookup-requires-clause-rooted : goal.lookup-requires-clause-rooted
lookup-requires-clause-rooted g c = c.requires.reading.rooted

pub returns-clause-read : goal.returns-clause-read
returns-clause-read g c = record {
  seat = c.lookup.ensures.same.seat;
  number = c.lookup.ensures.same.number;
  root = c.lookup.ensures.root;
  anchors = c.lookup.ensures.same.anchors;
  blocks = c.lookup.ensures.read.read ++ (view_of c.args.member.now).blocks;
  view = c.lookup.ensures.read.view;
}

pub returns-clause-value : goal.returns-clause-value
returns-clause-value g c = found_value (held_by_view (view_of c.args.member.now)) c.args.key.0 c.lookup.result (c.lookup.ensures.held c.requires.plain)

pub returns-clause-listed : goal.returns-clause-listed
returns-clause-listed g c = found_listed (held_by_view (view_of c.args.member.now)) c.args.key.0 c.lookup.result (c.lookup.ensures.held c.requires.plain)
