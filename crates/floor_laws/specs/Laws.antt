-- The laws, as this crate's functions state them.
use Rattle.std.specs.Prelude.{◌≡◌, ◌≢◌, ℕ, ◌+◌, ◌<◌, ◌≤◌, List, [], ◌∷◌, ◌++◌, length, All, Option, Some, None}
use Rattle.ts_key.specs.declared.batch.WriteOp.{WriteOp}
use Rattle.ts_key.specs.declared.numbers.Family.{Family}
use Rattle.ts_key.specs.declared.numbers.Ts.{Ts}
use Rattle.ts_key.specs.declared.numbers.Seq.{Seq}
use Rattle.ts_key.specs.declared.version.Form.{Form}
use Rattle.ts_key.specs.declared.version.Form.TheVariants.{Strip}
use Rattle.ts_key.specs.declared.version.Version.{Version}
use Rattle.udt_model.specs.declared.line.FamilyHead.{FamilyHead}
use Rattle.udt_model.specs.declared.reply.KeySpan.{KeySpan}
use Rattle.udt_model.specs.declared.reply.Reply.{Reply}
use Rattle.udt_model.specs.declared.reply.Reply.TheVariants.{Done}
use Rattle.udt_model.specs.Versions.{AreWritten, between, made, newest_of, of_key, up_to}
use Rattle.udt_model.specs.Reads.{read}
use Rattle.udt_model.specs.Collecting.{collect, collect_all}
use Rattle.udt_model.specs.Standing.{IsSight, Stands}
use Rattle.udt_model.specs.State.{State, FamilyState, Flush, Compaction, family_at, sight, unflushed}
use Rattle.udt_model.specs.Acts.{Act}
use Rattle.udt_model.specs.Refusals.{fell, refused}
use Rattle.udt_model.specs.Jobs.{floor_over, in_form, inputs_hold, flush_taken}
use Rattle.udt_model.specs.Steps.{IsReplyTo, after}
use Rattle.udt_model.specs.declared.line.Line.{Line}
use Rattle.udt_model.specs.Histories.{Leads, Point}
use Rattle.udt_model.specs.Names.{View, given_view}
use Rattle.udt_model.specs.Entries.{AreEntries, Counts, Entry, after_entry}
use Rattle.udt_model.specs.Crashes.{Course, IsOutcomeUnder, course_after, course_start, cut_at, settled}
use Rattle.floor_laws.specs.Sound.{IsSoundCourse, IsSoundOpening, IsSoundState, lists_of}
use Rattle.floor_laws.specs.Views.{ShowsPin}
use Rattle.floor_laws.specs.Lists.{HaveOwnSequences, AreAside, AreNewer, AreSame, AreSince, IsNextVersion, IsUpTo}

-- ---- lists that stand for a family's writes

-- A read of them answers as a read of the writes: it is refused below the floor, and else finds the same, now and with each snapshot.
abbrev pub ReadsAsWrites : Type 0
ReadsAsWrites = (family : Family) (form : Form) (vs w : List Version) (floor : Ts) (seqs : List Seq) (key : List ℕ) (t : Ts) (s : Seq)
    → Stands family form vs w floor seqs → IsSight w seqs s → read vs floor family key t s ≡ read w floor family key t s

-- An operation at or above the floor falls below their newest version of its key where it falls below the writes', and by as much.
abbrev pub FallsAsWrites : Type 0
FallsAsWrites = (family : Family) (form : Form) (vs w : List Version) (floor : Ts) (seqs : List Seq) (last : ℕ) (key : List ℕ) (ts : Ts) (k : ℕ)
    → HaveOwnSequences w → IsUpTo last w → floor.0 ≤ ts.0 → Stands family form vs w floor seqs → fell k ts (newest_of (of_key vs family key)) ≡ fell k ts (newest_of (of_key w family key))

-- they go on standing when the floor is raised
abbrev pub StandsWhenRaised : Type 0
StandsWhenRaised = (family : Family) (form : Form) (vs w : List Version) (floor raised : Ts) (seqs : List Seq)
    → floor.0 ≤ raised.0 → Stands family form vs w floor seqs → Stands family form vs w raised seqs

-- when a snapshot is made, which sees all, or released
abbrev pub StandsWithSnapshots : Type 0
StandsWithSnapshots = (family : Family) (form : Form) (vs w : List Version) (floor : Ts) (before seqs : List Seq)
    → All (IsSight w before) seqs → Stands family form vs w floor before → Stands family form vs w floor seqs

-- when the same versions stand in other places, as behind a seal
abbrev pub StandsInPlaces : Type 0
StandsInPlaces = (family : Family) (form : Form) (vs places w : List Version) (floor : Ts) (seqs : List Seq)
    → AreSame vs places → HaveOwnSequences places → Stands family form vs w floor seqs → Stands family form places w floor seqs

-- when a version of the family is written
abbrev pub StandsWhenWritten : Type 0
StandsWhenWritten = (form : Form) (vs w : List Version) (floor : Ts) (seqs : List Seq) (v : Version)
    → HaveOwnSequences w → IsNextVersion w v → Stands v.family form vs w floor seqs → Stands v.family form (v ∷ vs) (w ++ v ∷ []) floor seqs

-- when a version of another one is
abbrev pub StandsBesideWrites : Type 0
StandsBesideWrites = (family : Family) (form : Form) (vs w : List Version) (floor : Ts) (seqs : List Seq) (v : Version)
    → v.family ≢ family → HaveOwnSequences w → IsNextVersion w v → Stands family form vs w floor seqs → Stands family form vs (w ++ v ∷ []) floor seqs

-- When a part of them is flushed, by the floor and the snapshots of the flush's start, whatever was written and raised since: the part
-- isn't above the start's sequence, and in a family that strips its timestamps the rest lies aside of it.
abbrev pub StandsWhenFlushed : Type 0
StandsWhenFlushed = (family : Family) (form : Form) (part rest w : List Version) (floor : Ts) (seqs : List Seq) (start : ℕ) (at : Ts) (before : List Seq)
    → at.0 ≤ floor.0 → AreSince before start seqs → IsUpTo start part → (form ≡ Strip → AreAside part rest)
    → Stands family form (part ++ rest) w floor seqs → Stands family form (in_form form (collect_all part at before) ++ rest) w (floor_over form floor part) seqs

-- When a part of them is collected, by the floor, the snapshots and the deeper spans of the compaction's start, whatever was written,
-- raised and flushed since: the part isn't above the start's sequence, and what lies in no deeper span is newer outside of it.
abbrev pub StandsWhenCompacted : Type 0
StandsWhenCompacted = (family : Family) (form : Form) (part rest w : List Version) (floor : Ts) (seqs : List Seq) (start : ℕ) (at : Ts) (before : List Seq) (deeper : List KeySpan)
    → at.0 ≤ floor.0 → AreSince before start seqs → IsUpTo start part → AreNewer deeper part rest
    → Stands family form (part ++ rest) w floor seqs → Stands family form (collect part at before deeper ++ rest) w floor seqs

-- tables that stand for the writes up to a sequence stand, with the later ones beside them, for all
abbrev pub StandsWhenOpened : Type 0
StandsWhenOpened = (family : Family) (form : Form) (tables w : List Version) (floor : Ts) (through count last : ℕ)
    → AreWritten count last w → through ≤ last → Stands family form tables (up_to through w) floor [] → Stands family form (between family through last w ++ tables) w floor []

-- ---- collections by the versions alone

abbrev pub CollectsInAnyOrder : Type 0
CollectsInAnyOrder = (vs ws : List Version) (floor : Ts) (seqs : List Seq) (deeper : List KeySpan)
    → AreSame vs ws → HaveOwnSequences vs → HaveOwnSequences ws → collect vs floor seqs deeper ≡ collect ws floor seqs deeper

abbrev pub FlushesInAnyOrder : Type 0
FlushesInAnyOrder = (form : Form) (vs ws : List Version) (floor : Ts) (seqs : List Seq)
    → AreSame vs ws → HaveOwnSequences vs → HaveOwnSequences ws → in_form form (collect_all vs floor seqs) ≡ in_form form (collect_all ws floor seqs)

abbrev pub RaisesInAnyOrder : Type 0
RaisesInAnyOrder = (form : Form) (vs ws : List Version) (floor : Ts) → AreSame vs ws → floor_over form floor vs ≡ floor_over form floor ws

-- ---- states

-- operations that no timestamp or floor refuses are what writes make
abbrev pub WritesWhatIsAdmitted : Type 0
WritesWhatIsAdmitted = (m : State) (w : List Version) (n k : ℕ) (ops : List WriteOp)
    → refused m w n k ops ≡ None → AreWritten (length m.families) n w → AreWritten (length m.families) (n + length ops) (w ++ made n ops)

-- lists that the writes of as many families made, with the same versions of each, are one
abbrev pub IsFixedByFamilies : Type 0
IsFixedByFamilies = (count last end : ℕ) (w v : List Version)
    → AreWritten count last w → AreWritten count end v → ((family : Family) → family.0 < count → between family 0 last w ≡ between family 0 end v) → w ≡ v

-- every legal step of a sound state leads to a sound one
abbrev pub StaysSound : Type 0
StaysSound = (m : State) (number : ℕ) (act : Act) (reply : Reply) → IsSoundState m → IsReplyTo m act reply → IsSoundState (after m number act reply)

-- and so does every legal transcript
abbrev pub StaysSoundAlongLines : Type 0
StaysSoundAlongLines = (old : Point) (lines : List Line) (new : Point) → IsSoundState old.state → Leads old lines new → IsSoundState new.state

-- the state behind entries of the history of the threads
abbrev pub state_behind : State → ℕ → List Entry → State
state_behind m number [] = m
state_behind m number (e ∷ es) = state_behind (after_entry m (number + 1) e) (number + 1) es

-- and every history of the threads
abbrev pub StaysSoundAlongEntries : Type 0
StaysSoundAlongEntries = (m : State) (counts : Counts) (number : ℕ) (entries : List Entry)
    → IsSoundState m → AreEntries m counts number entries → IsSoundState (state_behind m number entries)

-- a read of a family's lists answers as a read of all writes, now and with each registered snapshot
abbrev pub ReadsSoundly : Type 0
ReadsSoundly = (m : State) (family : Family) (f : FamilyState) (key : List ℕ) (t : Ts) (snap : Option ℕ)
    → IsSoundState m → family_at m family ≡ Some f → read (lists_of m family f) f.head.floor family key t (sight m snap) ≡ read m.versions f.head.floor family key t (sight m snap)

-- a view of a sound state, as a pin there gives it, shows that state behind every legal transcript
abbrev pub ShowsPinAlongLines : Type 0
ShowsPinAlongLines = (old : Point) (lines : List Line) (new : Point) (number : ℕ) (view : View)
    → IsSoundState old.state → Leads old lines new → given_view old.state number Done ≡ Some view → ShowsPin old.state new.state view

-- and behind every history of the threads
abbrev pub ShowsPinAlongEntries : Type 0
ShowsPinAlongEntries = (m : State) (counts : Counts) (number : ℕ) (entries : List Entry) (pin : ℕ) (view : View)
    → IsSoundState m → AreEntries m counts number entries → given_view m pin Done ≡ Some view → ShowsPin m (state_behind m number entries) view

-- an opened state is sound, and so is one of which nothing is in a table
abbrev pub OpensSound : Type 0
OpensSound = (m : State) → IsSoundOpening m → IsSoundState m

abbrev pub BeginsSound : Type 0
BeginsSound = (heads : List FamilyHead) (w : List Version) (last : Seq) (halted : Option ℕ) → AreWritten (length heads) last.0 w → IsSoundState (unflushed heads w last halted)

-- a sound state is so without its snapshots and jobs, and with the writes up to a sequence that isn't below what is in tables
abbrev pub SettlesSound : Type 0
SettlesSound = (m : State) → IsSoundState m → IsSoundState (settled m)

abbrev pub CutsSound : Type 0
CutsSound = (m : State) (end : ℕ) → ((family : Family) (f : FamilyState) → family_at m family ≡ Some f → f.through.0 ≤ end) → IsSoundState m → IsSoundState (cut_at m end)

-- nothing is cut where all is kept
abbrev pub CutsNothing : Type 0
CutsNothing = (m : State) → IsSoundState m → cut_at m m.last.0 ≡ settled m

-- what a crash may leave of a sound state on a sound course is sound, also while the disk works on an act
abbrev pub CrashesSound : Type 0
CrashesSound = (m : State) (c : Course) (number : ℕ) (act : Act) (left : State) → IsSoundState m → IsSoundCourse m c → IsOutcomeUnder m c number act left → IsSoundState left

-- a sound state begins on a sound course, and every legal step keeps it
abbrev pub CourseBeginsSound : Type 0
CourseBeginsSound = (m : State) → IsSoundState m → IsSoundCourse m (course_start m)

abbrev pub CourseStaysSound : Type 0
CourseStaysSound = (m : State) (c : Course) (number : ℕ) (act : Act) (reply : Reply)
    → IsSoundState m → IsSoundCourse m c → IsReplyTo m act reply → IsSoundCourse (after m number act reply) (course_after m number c act reply)

-- a flush that runs on behind a step takes what it took before, and so does a compaction
abbrev pub FlushTakesTheSame : Type 0
FlushTakesTheSame = (m : State) (number : ℕ) (act : Act) (reply : Reply) (job : Flush)
    → IsSoundState m → m.flush ≡ Some job → (after m number act reply).flush ≡ Some job → flush_taken (after m number act reply) job ≡ flush_taken m job

abbrev pub CompactionTakesTheSame : Type 0
CompactionTakesTheSame = (m : State) (number : ℕ) (act : Act) (reply : Reply) (job : Compaction)
    → IsSoundState m → IsReplyTo m act reply → m.compaction ≡ Some job → (after m number act reply).compaction ≡ Some job → inputs_hold (after m number act reply) job ≡ inputs_hold m job
