use Rattle.std.proofs.Common.{◌≡◌, ◌++◌, take}
use Rattle.std.specs.List.{All, flat_map}
use Rattle.head_manifest.specs.Heads.{IsNamed, family_text}
use Rattle.head_manifest.proofs.head.push_families.Given as goal

abbrev pub invariant-loop-family : goal.invariant-loop-family
invariant-loop-family l = record {
  text : l.body.items ≡ l.initial.body.items ++ flat_map family_text (take l.family-index l.families);
  named : All IsNamed (take l.family-index l.families);
}
