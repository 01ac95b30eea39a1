-- A desk in memory as its callers see it.
use Rattle.std.specs.Prelude.{ℕ, ◌==◌, ◌||◌, ◌&&◌, min, Bool, nat_lt, List, length}
use Rattle.ports.specs.Desk.{Told, left}
use Rattle.ports.specs.Calls.{is_bad}
use Rattle.ports.specs.declared.desk.Inlet.{Inlet}
use Rattle.ports.specs.Buffers.{rest_from, path_if}
use Rattle.ports.specs.declared.room.Room.{Room}
use Rattle.ports.specs.declared.memory_desk.MemDesk.{MemDesk}

-- what it tells
abbrev pub told_of : MemDesk → Told
told_of d = record {
  instance = rest_from d.instance.at d.instance.bytes.items;
  proof_in = rest_from d.proof_in.at d.proof_in.bytes.items;
  text = d.text.items;
  proof_out = d.proof_out.items;
  instance_path = path_if d.instance_path.is_bound d.instance_path.bytes.items;
  proof_in_path = path_if d.proof_in_path.is_bound d.proof_in_path.bytes.items;
  proof_out_path = path_if d.proof_out_path.is_bound d.proof_out_path.bytes.items;
  instance_binds = d.instance_path.binds;
  proof_in_binds = d.proof_in_path.binds;
  proof_out_binds = d.proof_out_path.binds;
}

-- what it was made with: the greatest sizes of a read and a write, and the numbers of the calls that fail
pub record Plan : Type 0 where
  pub most_read : ℕ
  pub most_write : ℕ
  pub bad_binds : List ℕ
  pub bad_reads : List ℕ
  pub bad_writes : List ℕ

abbrev pub plan_of : MemDesk → Plan
plan_of d = record {
  most_read = d.most_read;
  most_write = d.most_write;
  bad_binds = d.bad_binds.items;
  bad_reads = d.bad_reads.items;
  bad_writes = d.bad_writes.items;
}

-- how many calls of each kind were made while room was left for a call
pub record Made : Type 0 where
  pub binds : ℕ
  pub reads : ℕ
  pub writes : ℕ

abbrev pub made_of : MemDesk → Made
made_of d = record { binds = d.binds; reads = d.reads; writes = d.writes }

-- the room that is left
abbrev pub room_of : MemDesk → Room
room_of d = d.room

abbrev pub read_faults_of : MemDesk → ℕ
read_faults_of d = d.read_faults

abbrev pub write_faults_of : MemDesk → ℕ
write_faults_of d = d.write_faults

-- a bind of a path of this length fails
abbrev pub bind_fails : ℕ → MemDesk → Bool
bind_fails len d = is_bad (room_of d).calls (made_of d).binds (plan_of d).bad_binds || nat_lt (room_of d).paths len

-- a read fails
abbrev pub read_fails : MemDesk → Bool
read_fails d = is_bad (room_of d).calls (made_of d).reads (plan_of d).bad_reads

-- how much a read into a buffer of this size gives
abbrev pub read_size : Inlet → ℕ → MemDesk → ℕ
read_size from size d = min size (min (plan_of d).most_read (length (left from (told_of d))))

-- a write of a piece of this length fails: for want of room only where none is left
abbrev pub write_fails : ℕ → MemDesk → Bool
write_fails len d = is_bad (room_of d).calls (made_of d).writes (plan_of d).bad_writes || ((room_of d).bytes == 0 && nat_lt 0 len)

-- how much of a piece of this length a write takes
abbrev pub write_size : ℕ → MemDesk → ℕ
write_size len d = min len (min (plan_of d).most_write (room_of d).bytes)
