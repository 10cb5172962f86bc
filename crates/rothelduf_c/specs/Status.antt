-- What calls answer: the enum rothelduf_status of rothelduf.h.
use Rattle.std.specs.Prelude.{ℕ}

abbrev pub OK : ℕ
OK = 0

-- the bytes are refused
abbrev pub FAULT : ℕ
FAULT = 1

abbrev pub NO_MEMORY : ℕ
NO_MEMORY = 2

-- no section is open
abbrev pub CLOSED : ℕ
CLOSED = 3

-- there is no such item, or no entry begins there
abbrev pub NOTHING : ℕ
NOTHING = 4

-- the request is refused, for a reason that is told
abbrev pub REFUSED : ℕ
REFUSED = 5

-- the room for the answer is too small
abbrev pub SHORT : ℕ
SHORT = 6

-- of a feed: more bytes are needed
abbrev pub MORE : ℕ
MORE = 7

-- of a feed: a header came
abbrev pub HEADER : ℕ
HEADER = 8

-- of a feed: a unit came
abbrev pub UNIT : ℕ
UNIT = 9

-- of a feed: there is no more, since memory was refused before
abbrev pub SPENT : ℕ
SPENT = 10
