-- The core before every event.
use Rattle.std.proofs.Common.{◌≡◌, ℕ, List, [], map, None, sym, ap, ◌∙◌}
use Rattle.std.specs.Prelude.{flat_map}
use Rattle.ts_key.specs.declared.version.Form.{Form}
use Rattle.udt_model.specs.State.{FamilyState, numbers_of, unflushed_family}
use Rattle.floor_core.specs.Cores.{CoreState, fresh_core, new_head}
use Rattle.floor_core.proofs.Pins.{no_live}

abbrev core_of : List FamilyState → List ℕ → CoreState
core_of families used = record {
  store = record { families = families; versions = []; last = record { 0 = 0 }; halted = None; used = used; snaps = []; flush = None; compaction = None };
  pins = [];
  events = 0;
}

pub fresh_is : (forms : List Form) (fs : List FamilyState) → fs ≡ map unflushed_family (map new_head forms) → core_of fs (flat_map (λ (f : FamilyState). numbers_of f.tables) fs) ≡ fresh_core forms
fresh_is forms fs e = ap (λ z. core_of z (flat_map (λ (f : FamilyState). numbers_of f.tables) z)) e ∙ ap (core_of (map unflushed_family (map new_head forms))) (sym (no_live forms))
