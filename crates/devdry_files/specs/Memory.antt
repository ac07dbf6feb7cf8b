-- What a disk over memory answers.
use Rattle.std.specs.Prelude.{◌≡◌, Bool, List, Option, Some, None, find, map, string_bytes}
use Rattle.std.specs.Option.{option_map}
use Rattle.std.specs.Str.{bytes_eq}
use Rattle.text_bytes.specs.Text.{Text}
use Rattle.devdry_files.specs.Answers.{Answer}
use Rattle.devdry_files.specs.Answers.Answer.{Content, Listing, Looked, NoContent, NoListing, NoOwnContent, OwnContent, Stepped}
use Rattle.devdry_files.specs.declared.disk.DiskFault.{DiskFault}
use Rattle.devdry_files.specs.declared.disk.DiskFault.TheVariants.{Absent, Unreadable, OutOfMemory}
use Rattle.devdry_files.specs.declared.disk.Entry.{Entry}
use Rattle.devdry_files.specs.declared.look.Look.{Look}
use Rattle.devdry_files.specs.declared.look.Look.TheVariants as look
use Rattle.devdry_files.specs.declared.step.Step.{Step}
use Rattle.devdry_files.specs.declared.step.Step.TheVariants as step
use Rattle.devdry_files.specs.declared.memory_disk.MemoryDisk.{MemoryDisk}
use Rattle.devdry_files.specs.declared.memory_disk.MemoryEntry.{MemoryEntry}
use Rattle.devdry_files.specs.declared.memory_disk.DiskNode.{DiskNode}
use Rattle.devdry_files.specs.declared.memory_disk.DiskNode.TheVariants as disk_node

-- an entry, with its name as bytes
pub record Seen : Type 0 where
  pub name : Text
  pub is_folder : Bool

-- what a contract sees of an entry
abbrev pub seen_entry : Entry → Seen
seen_entry e = record { name = string_bytes e.name; is_folder = e.is_folder }

-- what it sees of an entry in memory
abbrev pub seen_in_memory : MemoryEntry → Seen
seen_in_memory e = record { name = e.name.now; is_folder = e.is_folder }

-- what is at the path: at the first place that has it
abbrev pub node_at : MemoryDisk → Text → Option DiskNode
node_at disk path = option_map (λ p. p.disk_node) (find (λ p. bytes_eq p.path.now path) disk.places.now)

-- what is there is listed like this
abbrev pub ListsAs : Option DiskNode → List Entry → Type 0
ListsAs (Some (disk_node.Folder own)) entries = map seen_entry entries ≡ map seen_in_memory own.now
ListsAs _ entries = ⊥

-- what is there is read like this
abbrev pub ReadsAs : Option DiskNode → Text → Type 0
ReadsAs (Some (disk_node.File own)) bytes = bytes ≡ own.now
ReadsAs _ bytes = ⊥

-- why what is there can't be listed
abbrev pub ListsNot : Option DiskNode → DiskFault → Type 0
ListsNot (Some (disk_node.Folder own)) fault = fault ≡ OutOfMemory
ListsNot (Some _) fault = fault ≡ Unreadable
ListsNot None fault = fault ≡ Absent

-- why what is there can't be read
abbrev pub ReadsNot : Option DiskNode → DiskFault → Type 0
ReadsNot (Some (disk_node.File bytes)) fault = fault ≡ OutOfMemory
ReadsNot (Some _) fault = fault ≡ Unreadable
ReadsNot None fault = fault ≡ Absent

-- what a look at what is there shows
abbrev pub look_of : Option DiskNode → Look
look_of (Some (disk_node.Folder own)) = look.Folder
look_of (Some (disk_node.File bytes)) = look.File
look_of (Some _) = look.Failed
look_of None = look.Absent

-- a symlink with this target
abbrev pub LinksTo : Text → Step → Type 0
LinksTo target (step.Link own) = string_bytes own ≡ target
LinksTo target _ = ⊥

-- what a step to what is there shows; the identity of each file is the same
abbrev pub ShowsStep : Option DiskNode → Step → Type 0
ShowsStep (Some (disk_node.Folder own)) it = it ≡ step.Folder
ShowsStep (Some (disk_node.File bytes)) it = it ≡ step.File (record { device = 0; number = 0 })
ShowsStep (Some disk_node.Unreadable) it = it ≡ step.NoWay look.Failed
ShowsStep (Some (disk_node.Link target)) it = LinksTo target.now it
ShowsStep None it = it ≡ step.NoWay look.Absent

-- the answers that a disk over memory gives: one to each question, or out of memory instead of a text
abbrev pub MayAnswer : MemoryDisk → Answer → Type 0
MayAnswer disk (Listing path entries) = ListsAs (node_at disk path) entries
MayAnswer disk (NoListing path fault) = ListsNot (node_at disk path) fault
MayAnswer disk (Content path bytes) = ReadsAs (node_at disk path) bytes
MayAnswer disk (NoContent path fault) = ReadsNot (node_at disk path) fault
MayAnswer disk (Looked path shown) = shown ≡ look_of (node_at disk path)
MayAnswer disk (OwnContent path identity bytes) = ReadsAs (node_at disk path) bytes
MayAnswer disk (NoOwnContent path identity fault) = ReadsNot (node_at disk path) fault
MayAnswer disk (Stepped path it) = ShowsStep (node_at disk path) it
