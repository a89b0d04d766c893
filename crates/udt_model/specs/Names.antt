-- The names of a client: those in use, what they stand for, and what an event asks once its names are looked up.
use Rattle.std.specs.Prelude.{ℕ, Bool, true, not, ◌&&◌, nat_lt, List, [], ◌∷◌, ◌++◌, length, map, filter, find, Option, Some, None, option_map, option_and_then}
use Rattle.std.specs.Str.{bytes_eq}
use Rattle.std.specs.List.{list_any}
use Rattle.ts_key.specs.declared.batch.WriteOp.{WriteOp}
use Rattle.ts_key.specs.declared.numbers.Ts.{Ts}
use Rattle.ts_key.specs.declared.numbers.Seq.{Seq}
use Rattle.udt_model.specs.declared.event.NamedOp.{NamedOp}
use Rattle.udt_model.specs.declared.event.Event.{Event}
use Rattle.udt_model.specs.declared.event.Event.TheVariants.{Write, Get, Scan, Raise, Floor, Snap, Release, Pin, Unpin, ViewGet, ViewScan, ViewFloor, Sync, FlushStart, FlushEnd, CompactStart, CompactEnd}
use Rattle.udt_model.specs.declared.line.FamilyHead.{FamilyHead}
use Rattle.udt_model.specs.declared.reply.Reply.{Reply}
use Rattle.udt_model.specs.declared.reply.Reply.TheVariants.{Done, OkAt}
use Rattle.udt_model.specs.Scans.{Range}
use Rattle.udt_model.specs.Versions.{up_to}
use Rattle.udt_model.specs.State.{State, family_of, floors_of, with_floors}
use Rattle.udt_model.specs.Acts.{Act}

-- what a view was pinned to: the number of its pin, and the last sequence and the floors there
pub record View : Type 0 where
  pub number : ℕ
  pub last : Seq
  pub floors : List Ts

-- a name in use, and what it stands for; nothing where its snapshot or view was refused
pub record SnapName : Type 0 where
  pub name : List ℕ
  pub event : Option ℕ

pub record ViewName : Type 0 where
  pub name : List ℕ
  pub view : Option View

-- the names of snapshots and those of views that a client has in use, in the order in which they came into use
pub record Names : Type 0 where
  pub snaps : List SnapName
  pub views : List ViewName

abbrev pub no_names : Names
no_names = record { snaps = []; views = [] }

-- ---- which names may be used

-- one of the names is this one
abbrev pub names_it : List (List ℕ) → List ℕ → Bool
names_it names name = list_any (λ n. bytes_eq n name) names

-- the name is there, where one is given
abbrev pub names_given : List (List ℕ) → Option (List ℕ) → Bool
names_given names None = true
names_given names (Some name) = names_it names name

-- the most views that a client has in use
abbrev pub view_limit : ℕ
view_limit = 64

-- The event may be asked while these names of snapshots and these of views are in use: what it uses is in use, what it binds is not,
-- and there are fewer than the most views.
abbrev pub fits : List (List ℕ) → List (List ℕ) → Event → Bool
fits snaps views (Get family key t snap) = names_given snaps snap
fits snaps views (Scan family low high t limit forward snap) = names_given snaps snap
fits snaps views (Snap name) = not (names_it snaps name)
fits snaps views (Release name) = names_it snaps name
fits snaps views (Pin name) = not (names_it views name) && nat_lt (length views) view_limit
fits snaps views (Unpin name) = names_it views name
fits snaps views (ViewGet view family key t snap) = names_it views view && names_given snaps snap
fits snaps views (ViewScan view family low high t limit forward snap) = names_it views view && names_given snaps snap
fits snaps views (ViewFloor view family) = names_it views view
fits snaps views event = true

-- the names that are in use behind the event, whatever its reply
abbrev pub snaps_behind : List (List ℕ) → Event → List (List ℕ)
snaps_behind snaps (Snap name) = snaps ++ name ∷ []
snaps_behind snaps (Release name) = filter (λ n. not (bytes_eq n name)) snaps
snaps_behind snaps event = snaps

abbrev pub views_behind : List (List ℕ) → Event → List (List ℕ)
views_behind views (Pin name) = views ++ name ∷ []
views_behind views (Unpin name) = filter (λ n. not (bytes_eq n name)) views
views_behind views event = views

-- each event may be asked behind the ones before it
abbrev pub all_fit : List (List ℕ) → List (List ℕ) → List Event → Bool
all_fit snaps views [] = true
all_fit snaps views (e ∷ es) = fits snaps views e && all_fit (snaps_behind snaps e) (views_behind views e) es

abbrev pub snap_names : Names → List (List ℕ)
snap_names names = map (λ b. b.name) names.snaps

abbrev pub view_names : Names → List (List ℕ)
view_names names = map (λ b. b.name) names.views

-- ---- what they stand for

-- the number of the snapshot of this name
abbrev pub snap_of : Names → List ℕ → Option ℕ
snap_of names name = option_and_then (λ b. b.event) (find (λ b. bytes_eq b.name name) names.snaps)

abbrev pub view_of : Names → List ℕ → Option View
view_of names name = option_and_then (λ b. b.view) (find (λ b. bytes_eq b.name name) names.views)

-- the act with the snapshot of the name, where one is given
abbrev pub with_snap : Names → Option (List ℕ) → (Option ℕ → Act) → Option Act
with_snap names None act = Some (act None)
with_snap names (Some name) act = option_map (λ event. act (Some event)) (snap_of names name)

-- the act, unless the view was refused
abbrev pub in_view : Names → List ℕ → Option Act → Option Act
in_view names view act = option_and_then (λ v. act) (view_of names view)

abbrev pub range_of : Option (List ℕ) → Option (List ℕ) → Range
range_of low high = record { low = low; high = high }

abbrev pub op_of : List FamilyHead → NamedOp → WriteOp
op_of heads o = record { family = family_of heads o.family; key = o.key; ts = o.ts; op = o.op }

-- what the event asks; nothing where a name that it uses, releases or unpins was refused
abbrev pub act_of : List FamilyHead → Names → Event → Option Act
act_of heads names (Write ops sync) = Some (Act.write (map (op_of heads) ops) sync)
act_of heads names (Get family key t snap) = with_snap names snap (Act.get (family_of heads family) key t)
act_of heads names (Scan family low high t limit forward snap) = with_snap names snap (Act.scan (family_of heads family) (range_of low high) t limit forward)
act_of heads names (Raise family floor) = Some (Act.raise (family_of heads family) floor)
act_of heads names (Floor family) = Some (Act.ask_floor (family_of heads family))
act_of heads names (Snap name) = Some Act.make_snapshot
act_of heads names (Release name) = option_map Act.release (snap_of names name)
act_of heads names (Pin name) = Some Act.pin
act_of heads names (Unpin name) = option_map (λ v. Act.unpin) (view_of names name)
act_of heads names (ViewGet view family key t snap) = in_view names view (with_snap names snap (Act.get (family_of heads family) key t))
act_of heads names (ViewScan view family low high t limit forward snap) = in_view names view (with_snap names snap (Act.scan (family_of heads family) (range_of low high) t limit forward))
act_of heads names (ViewFloor view family) = in_view names view (Some (Act.ask_floor (family_of heads family)))
act_of heads names Sync = Some Act.sync_all
act_of heads names (FlushStart family) = Some (Act.flush_start (family_of heads family))
act_of heads names (FlushEnd family start) = Some (Act.flush_end (family_of heads family) start)
act_of heads names (CompactStart family pick) = Some (Act.compact_start (family_of heads family) pick)
act_of heads names (CompactEnd family start) = Some (Act.compact_end (family_of heads family) start)

-- ---- views

-- the state at a pin, with the snapshots of now
abbrev pub pinned : State → Option View → State
pinned m None = m
pinned m (Some v) = record m { families = with_floors v.floors m.families; versions = up_to v.last.0 m.versions; last = v.last }

-- the state in which the event is judged
abbrev pub seen_by : State → Names → Event → State
seen_by m names (ViewGet view family key t snap) = pinned m (view_of names view)
seen_by m names (ViewScan view family low high t limit forward snap) = pinned m (view_of names view)
seen_by m names (ViewFloor view family) = pinned m (view_of names view)
seen_by m names event = m

-- ---- what changes

-- the number that a snap gave, unless it was refused
abbrev pub given_snap : ℕ → Reply → Option ℕ
given_snap number (OkAt seq) = Some number
given_snap number reply = None

abbrev pub given_view : State → ℕ → Reply → Option View
given_view m number Done = Some (record { number = number; last = m.last; floors = floors_of m })
given_view m number reply = None

abbrev pub names_after : State → ℕ → Names → Event → Reply → Names
names_after m number names (Snap name) reply = record names { snaps = names.snaps ++ record { name = name; event = given_snap number reply } ∷ [] }
names_after m number names (Release name) reply = record names { snaps = filter (λ b. not (bytes_eq b.name name)) names.snaps }
names_after m number names (Pin name) reply = record names { views = names.views ++ record { name = name; view = given_view m number reply } ∷ [] }
names_after m number names (Unpin name) reply = record names { views = filter (λ b. not (bytes_eq b.name name)) names.views }
names_after m number names event reply = names
