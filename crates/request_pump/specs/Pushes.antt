-- What a ring gave back of what was pushed (own).
use Rattle.std.specs.Prelude.{ℕ, ◌+◌, ◌==◌, if◌then◌else◌}
use Rattle.logged_streams.specs.Streams.{one_more}

-- how many requests it gave back, each once or more often, and how many times in a row that which comes next (own)
pub record PushState : Type 0 where
  pub requests : ℕ
  pub in_a_row : ℕ

-- nothing was pushed yet (own)
abbrev pub none_back : PushState
none_back = record { requests = 0; in_a_row = 0 }

-- a request went in (own)
abbrev pub went_in : PushState → PushState
went_in pushes = record { requests = pushes.requests; in_a_row = 0 }

-- a request was given back (own)
abbrev pub given_back : PushState → PushState
given_back pushes = record { requests = if pushes.in_a_row == 0 then one_more pushes.requests else pushes.requests; in_a_row = pushes.in_a_row + 1 }
