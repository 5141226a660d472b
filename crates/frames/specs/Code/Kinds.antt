-- What kind of frame it is: the laws go by it.
pub data Kind : Type 0 where
  Nothing : Kind
  Piece : Kind
  Checkin : Kind
  Report : Kind
  Overheard : Kind
  Kids : Kind
