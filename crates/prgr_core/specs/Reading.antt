-- The text of a list of events read from the front, line by line, with the first line of another form.
-- A text that ends before `go` has its fault at its last line, or at line 1 where it has no bytes.
use Rattle.std.specs.Prelude.{◌≡◌, ℕ, ◌+◌, ◌-◌, ◌*◌, ◌^◌, ◌==◌, not, ◌&&◌, ◌||◌, nat_lt, nat_le, if◌then◌else◌, List, [], ◌∷◌, ◌++◌, length, codes, Option, Some, None, option_map, Result, Ok, Err}
use Rattle.std.specs.Option.{option_and_then}
use Rattle.std.specs.Char.{is_ascii_digit}
use Rattle.std.specs.Str.{bytes_eq}
use Rattle.prgr_core.specs.declared.member.TheConstants.{MOST_MEMBERS}
use Rattle.prgr_core.specs.declared.watcher.TheConstants.{MOST_WATCHERS, DELAY_COUNTS}
use Rattle.prgr_core.specs.declared.fault.EventFault.{EventFault}
use Rattle.prgr_core.specs.declared.fault.EventFault.TheVariants as faults
use Rattle.prgr_core.specs.declared.event.Events.{Events}
use Rattle.prgr_core.specs.declared.event.PrgrEvent.{PrgrEvent}
use Rattle.prgr_core.specs.declared.event.PrgrEvent.TheVariants.{LoadCounter, LoadRoot, Report, Lead, Scan, ScanDelay, Advance, GiveUp, Wait, Enter, Publish, Retire, Release, WatchLoad, WatchAdd, WatchRoot, WatchSub}
use Rattle.prgr_core.specs.EventText.{space, line_feed}

-- what was read goes on, and a fault is the fault of the whole
infixl 10 ◌>>=◌
abbrev pub ◌>>=◌ : {A B : Type 0} → Result A ℕ → (A → Result B ℕ) → Result B ℕ
(Ok x) >>= f = f x
(Err line) >>= f = Err line

-- the fault of a call is that of the reading, unless memory was refused
abbrev pub Fails : {Y : Type 0} → EventFault → Result Y ℕ → Type 0
Fails (faults.Syntax line) read = read ≡ Err line
Fails faults.NoMemory read = Unit {0}

-- what a call answered, seen by view, is what was read, or its fault
abbrev pub Gives : {X Y : Type 0} → (X → Y) → Result X EventFault → Result Y ℕ → Type 0
Gives view (Ok x) read = read ≡ Ok (view x)
Gives view (Err fault) read = Fails fault read

-- ---- parts of a text

-- with this byte at the front
abbrev pub with_first : ℕ → List ℕ × List ℕ → List ℕ × List ℕ
with_first b p = (b ∷ p.0, p.1)

-- what stands before and behind the first such byte, if there is one
abbrev pub cut_at : ℕ → List ℕ → Option (List ℕ × List ℕ)
cut_at c [] = None
cut_at c (b ∷ bs) = if b == c then Some ([], bs) else option_map (with_first b) (cut_at c bs)

-- the lines that end with a line feed, and the bytes behind the last of them
pub record LinesOfEvents : Type 0 where
  pub ended : List (List ℕ)
  pub tail : List ℕ

-- these ended lines, and these bytes behind them
abbrev pub ended_lines : List (List ℕ) → List ℕ → LinesOfEvents
ended_lines ended tail = record { ended = ended; tail = tail }

-- with this byte at the front
abbrev pub before_lines : ℕ → List (List ℕ) → List ℕ → LinesOfEvents
before_lines b [] tail = ended_lines [] (b ∷ tail)
before_lines b (line ∷ others) tail = ended_lines ((b ∷ line) ∷ others) tail

-- the lines of a text
abbrev pub event_lines_of : List ℕ → LinesOfEvents
event_lines_of [] = ended_lines [] []
event_lines_of (b ∷ bs) =
    if b == line_feed then ended_lines ([] ∷ (event_lines_of bs).ended) (event_lines_of bs).tail
    else before_lines b (event_lines_of bs).ended (event_lines_of bs).tail

-- ---- numbers

-- the number with one digit more: no digit follows a zero, and the number stays below 2 ^ 64
abbrev pub with_digit : ℕ → ℕ → Option ℕ
with_digit n c =
    if (n == 0) || not (is_ascii_digit c) || not (nat_lt (n * 10 + (c - 48)) (2 ^ 64)) then None else Some (n * 10 + (c - 48))

-- the number that these digits make of what was read before them
abbrev pub number_on : ℕ → List ℕ → Option ℕ
number_on n [] = Some n
number_on n (c ∷ cs) = option_and_then (λ m. number_on m cs) (with_digit n c)

-- the number whose decimal text this is
abbrev pub event_number : List ℕ → Option ℕ
event_number [] = None
event_number (c ∷ cs) = if is_ascii_digit c then number_on (c - 48) cs else None

-- the number, where it is one of so many from 0
abbrev pub number_below : ℕ → List ℕ → Option ℕ
number_below count text = option_and_then (λ n. if nat_lt n count then Some n else None) (event_number text)

-- two numbers, from the texts before and behind a space
abbrev pub numbers_by : ℕ → ℕ → Option (List ℕ × List ℕ) → Option (ℕ × ℕ)
numbers_by first second None = None
numbers_by first second (Some p) =
    option_and_then (λ n. option_map (λ k. (n, k)) (number_below second p.1)) (number_below first p.0)

-- two numbers with a space between them, where the first is one of so many, and the second of so many
abbrev pub numbers_below : ℕ → ℕ → List ℕ → Option (ℕ × ℕ)
numbers_below first second text = numbers_by first second (cut_at space text)

-- ---- lines

-- the words of events that name one member
abbrev pub member_words : List (List ℕ × (ℕ → PrgrEvent))
member_words =
    (codes "load_counter", (λ m. LoadCounter m)) ∷ (codes "load_root", (λ m. LoadRoot m)) ∷ (codes "report", (λ m. Report m))
    ∷ (codes "lead", (λ m. Lead m)) ∷ (codes "scan_delay", (λ m. ScanDelay m)) ∷ (codes "advance", (λ m. Advance m))
    ∷ (codes "give_up", (λ m. GiveUp m)) ∷ (codes "wait", (λ m. Wait m)) ∷ (codes "enter", (λ m. Enter m)) ∷ []

-- the event of a member by the first row of this word
abbrev pub by_word : List (List ℕ × (ℕ → PrgrEvent)) → List ℕ → ℕ → Option PrgrEvent
by_word [] word m = None
by_word (row ∷ rows) word m = if bytes_eq word row.0 then Some (row.1 m) else by_word rows word m

-- the event of a word and what follows it, where there are so many members and watchers
abbrev pub worded_event : ℕ → ℕ → List ℕ → List ℕ → Option PrgrEvent
worded_event members watchers word rest =
    if bytes_eq word (codes "release") then option_map (λ g. Release g) (event_number rest)
    else (if bytes_eq word (codes "scan") then option_map (λ p. Scan p.0 p.1) (numbers_below members members rest)
    else (if bytes_eq word (codes "watch_load") then option_map (λ w. WatchLoad w) (number_below watchers rest)
    else (if bytes_eq word (codes "watch_add") then option_map (λ p. WatchAdd p.0 p.1) (numbers_below watchers DELAY_COUNTS rest)
    else (if bytes_eq word (codes "watch_root") then option_map (λ w. WatchRoot w) (number_below watchers rest)
    else (if bytes_eq word (codes "watch_sub") then option_map (λ p. WatchSub p.0 p.1) (numbers_below watchers DELAY_COUNTS rest)
    else option_and_then (by_word member_words word) (number_below members rest))))))

-- the event of a line, from what stands before and behind its first space
abbrev pub event_by : ℕ → ℕ → List ℕ → Option (List ℕ × List ℕ) → Option PrgrEvent
event_by members watchers line None =
    if bytes_eq line (codes "publish") then Some Publish
    else (if bytes_eq line (codes "retire") then Some Retire else None)
event_by members watchers line (Some p) = worded_event members watchers p.0 p.1

-- the event of a line
abbrev pub event_of : ℕ → ℕ → List ℕ → Option PrgrEvent
event_of members watchers line = event_by members watchers line (cut_at space line)

-- how many a line gives behind this word, from least to most
abbrev pub count_by : List ℕ → ℕ → ℕ → Option (List ℕ × List ℕ) → Option ℕ
count_by word least most None = None
count_by word least most (Some p) =
    if bytes_eq p.0 word
    then option_and_then (λ n. if nat_le least n && nat_le n most then Some n else None) (event_number p.1)
    else None

-- ---- the text

-- the line at which a text has its fault that ends where this line should stand
abbrev pub end_fault : ℕ → List ℕ → ℕ
end_fault number tail = if (length tail == 0) && nat_lt 1 number then number - 1 else number

-- a line and what follows it, from the cut at its line feed
abbrev pub line_by : ℕ → List ℕ → Option (List ℕ × List ℕ) → Result (List ℕ × List ℕ) ℕ
line_by number text None = Err (end_fault number text)
line_by number text (Some p) = Ok p

-- the line of this number, and what follows it
abbrev pub line_at : ℕ → List ℕ → Result (List ℕ × List ℕ) ℕ
line_at number text = line_by number text (cut_at line_feed text)

-- what follows the line of this number, which must be this one
abbrev pub expected : ℕ → List ℕ → List ℕ → Result (List ℕ) ℕ
expected number wanted text = do
  p ← line_at number text
  if bytes_eq p.0 wanted then Ok p.1 else Err number

-- what was found, or the fault of this line
abbrev pub or_fault : {A : Type 0} → ℕ → Option A → Result A ℕ
or_fault line None = Err line
or_fault line (Some x) = Ok x

-- how many the line of this number gives behind this word, and what follows it
abbrev pub count_at : ℕ → List ℕ → ℕ → ℕ → List ℕ → Result (ℕ × List ℕ) ℕ
count_at number word least most text = do
  p ← line_at number text
  n ← or_fault number (count_by word least most (cut_at space p.0))
  Ok (n, p.1)

-- the event of the line of this number, or none where it is `go`, and what follows it
abbrev pub event_at : ℕ → ℕ → ℕ → List ℕ → Result (Option PrgrEvent × List ℕ) ℕ
event_at members watchers number text = do
  p ← line_at number text
  if bytes_eq p.0 (codes "go") then Ok (None, p.1) else (or_fault number (event_of members watchers p.0) >>= (λ event. Ok (Some event, p.1)))

-- nothing follows `go`
abbrev pub at_end : ℕ → List PrgrEvent → List (List ℕ) → List ℕ → Result (List PrgrEvent) ℕ
at_end number events [] [] = Ok events
at_end number events [] (b ∷ tail) = Err number
at_end number events (line ∷ others) tail = Err number

-- the events of the lines from this number on, behind those that were read
abbrev pub list_on : ℕ → ℕ → ℕ → List PrgrEvent → List (List ℕ) → List ℕ → Result (List PrgrEvent) ℕ
list_on members watchers number events [] tail = Err (end_fault number tail)
list_on members watchers number events (line ∷ others) tail =
    if bytes_eq line (codes "go") then at_end (number + 1) events others tail
    else (or_fault number (event_of members watchers line) >>= (λ event. list_on members watchers (number + 1) (events ++ event ∷ []) others tail))

-- the events from the fourth line on
abbrev pub list_at : ℕ → ℕ → List ℕ → Result (List PrgrEvent) ℕ
list_at members watchers text = list_on members watchers 4 [] (event_lines_of text).ended (event_lines_of text).tail

-- the whole text, or the first line of another form
abbrev pub reading : List ℕ → Result Events ℕ
reading text = do
  behind_head ← expected 1 (codes "beam progress 1") text
  members ← count_at 2 (codes "members") 1 MOST_MEMBERS behind_head
  watchers ← count_at 3 (codes "watchers") 0 MOST_WATCHERS members.1
  list ← list_at members.0 watchers.0 watchers.1
  Ok (record { members = members.0; watchers = watchers.0; list = list })
