mod Holding
mod Looking
mod Members
mod Used
mod Waiting
