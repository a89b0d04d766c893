use Rattle.std.proofs.Common.{◌≡◌, ◌++◌, length}
use Rattle.std.specs.List.{All, flat_map}
use Rattle.head_manifest.specs.Heads.{IsNewFamily, IsNamed, family_text}
use Rattle.head_manifest.proofs.reading.read_families.Given as goal

abbrev pub invariant-loop-i : goal.invariant-loop-i
invariant-loop-i l = record {
  long : length l.families.items ≡ l._i;
  new : All IsNewFamily l.families.items;
  named : All IsNamed l.families.items;
  is : l.bytes ≡ flat_map family_text l.families.items ++ l.rest;
}
