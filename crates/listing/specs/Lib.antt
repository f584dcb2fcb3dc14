-- What a listing says of every lent list.
pub mod Listed
