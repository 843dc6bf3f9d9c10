use Rattle.std.proofs.Common.{◌≡◌, ◌++◌, true, length}
use Rattle.std.specs.List.{list_all}
use Rattle.lb_types.specs.Names.{is_name}
use Rattle.pin_file.proofs.pin_line.read_names.Given as goal

-- the names so far, and the words that are left, are all words
abbrev pub invariant-loop-word : goal.invariant-loop-word
invariant-loop-word l = record {
  whole : l.names.items ++ l.words ≡ l.fn.words;
  named : list_all is_name l.names.items ≡ true;
}

abbrev pub decreases-loop-word : goal.decreases-loop-word
decreases-loop-word l = length l.words
