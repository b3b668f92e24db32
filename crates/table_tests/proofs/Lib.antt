pub mod SeatNumbers
